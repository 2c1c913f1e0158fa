-- Each entry is its class in the key. Assumes nothing.
use Rattle.laws.specs.Lists.{pad}
use Rattle.composer.specs.Harmony.{melody_pcs_of}
use Rattle.composer.proofs.harmony.melody_pcs.Goals as goal

pub returns-then-major : goal.returns-then-major
unfolding melody_pcs_of pad
returns-then-major c = rw (c.if-major.true, c.class_in-f.ensures, c.class_in-e.ensures, c.class_in-d.ensures, c.class_in-c.ensures, c.class_in-b.ensures, c.class_in-a.ensures)

pub returns : goal.returns
unfolding melody_pcs_of pad
returns c = rw (c.if-major.false, c.class_in-e.ensures, c.class_in-d.ensures, c.class_in-c.ensures, c.class_in-b.ensures, c.class_in-a.ensures)
