-- The hits of a page: markers go by the bar in which a sound is heard. Definitions only.
use Rattle.std.specs.Prelude.{cond, List, ◌++◌, map, ℕ, ◌+◌, eqb}
use Rattle.laws.specs.Lists.{joined}
use Rattle.composer.specs.Early.{hits_for, early_for, late_for}
use Rattle.composer.specs.Form.{loop_bar_of}
use Rattle.composer.specs.declared.form.Form.{Form}
use Rattle.composer.specs.declared.note.Hit.{Hit}
use Rattle.composer.specs.declared.score.Score.{Score}
use Rattle.pages.specs.Bar.{shown, plays_drums}
use Rattle.pages.specs.Bytes.{field}
use Rattle.pages.specs.Lane.{hit_bytes}

-- those of song bar b that stay on its own page: all but the early ones, and of song bar 0 all
abbrev pub own_hits : Score → Form → ℕ → List Hit
own_hits s f b = shown (plays_drums f b) (cond (eqb b 0) (hits_for s (loop_bar_of f b)) (late_for s (loop_bar_of f b)))

-- the early ones of song bar b, which move unless b is 0
abbrev pub moved_hits : Score → Form → ℕ → List Hit
moved_hits s f b = shown (plays_drums f b) (early_for s (loop_bar_of f b))

-- the bar's own hits, and behind them the early ones of the bar that follows
unfoldable pub page_hits : Score → Form → ℕ → List Hit
page_hits s f b = own_hits s f b ++ moved_hits s f (b + 1)

abbrev pub hits_field : List Hit → List ℕ
hits_field hs = field 0x07 (joined (map hit_bytes hs))
