-- Known codes are written again as they were read. Assumes nothing.
use mathlib.Core.Path.{◌≡◌, refl, sym, ap, ◌∙◌}
use mathlib.Core.Bool.{Bool, true, false, ◌&&◌, ◌||◌, cond}
use Prim.Native.Nat.{ℕ, ◌≤◌, ◌<◌}
use native.Mathlib.Omega.{arith}
use borrow.Author.Tests.{eqb-true, leb-true, ltb-true, ltb-false, ne_eqb}
use lib.Dec.{eqb, leb, ltb}
use Rattle.laws.proofs.Bools.{both}
use Rattle.composer.specs.Compose.{style_by}
use Rattle.composer.specs.Form.Ends.{count_of, end_code_of, end_bars_of, outro_code_of, outro_length_of}
use Rattle.composer.specs.Form.Plays.{bits_of}
use Rattle.composer.specs.Note.{role_number_of, kind_number_of}
use Rattle.composer.specs.Style.{style_number_of}
use Rattle.composer.specs.Voice.{voice_number_of}
use Rattle.composer.specs.declared.form.ends.Bars.{Bars}
use Rattle.composer.specs.declared.form.ends.Edge.{Edge}
use Rattle.composer.specs.declared.form.ends.End.{End}
use Rattle.composer.specs.declared.form.ends.Outro.{Outro}
use Rattle.composer.specs.declared.note.NoteRole.{NoteRole}
use Rattle.pages.specs.declared.edition.Edition.{Edition}
use Rattle.reader.specs.Codes.{voice_coded, lead_role_coded, role_coded, kind_coded, bars_coded, edge_coded, end_coded, outro_coded, plays_coded, end_known, outro_known}
use Rattle.reader.specs.Tests.{all_to}
use Rattle.reader.specs.Within.{role_within}
use Rattle.reader.proofs.TestLaws.{all_to_at}

-- ---- by a table of all that are known
same_to : (f : ℕ → ℕ) (n : ℕ) → all_to (λ c. eqb (f c) c) n ≡ true → (c : ℕ) → c < n → f c ≡ c
same_to f n table c h = eqb-true (f c) c (all_to_at (λ c. eqb (f c) c) n table c h)

pub style_again : (c : ℕ) → c < 2 → style_number_of (style_by c) ≡ c
unfolding all_to
style_again = same_to (λ c. style_number_of (style_by c)) 2 refl

pub voice_again : (c : ℕ) → c < 4 → voice_number_of (voice_coded c) ≡ c
unfolding all_to
voice_again = same_to (λ c. voice_number_of (voice_coded c)) 4 refl

pub kind_again : (c : ℕ) → c < 4 → kind_number_of (kind_coded c) ≡ c
unfolding all_to
kind_again = same_to (λ c. kind_number_of (kind_coded c)) 4 refl

-- a role that its lane has
lead_role_again : (c : ℕ) → c < 6 → role_number_of (lead_role_coded c) ≡ c
unfolding all_to
lead_role_again = same_to (λ c. role_number_of (lead_role_coded c)) 6 refl

no_lead_role : (c : ℕ) → 6 ≤ c → lead_role_coded c ≡ NoteRole.Backing
no_lead_role c h = rw (
  ne_eqb c 0 (λ e. omega arith),
  ne_eqb c 1 (λ e. omega arith),
  ne_eqb c 2 (λ e. omega arith),
  ne_eqb c 3 (λ e. omega arith),
  ne_eqb c 4 (λ e. omega arith),
  ne_eqb c 5 (λ e. omega arith),
)

-- the role that is read passes as its code does
lead_tests : (c : ℕ) (t : Bool) → ltb c 6 ≡ t → ltb (role_number_of (lead_role_coded c)) 6 ≡ t
lead_tests c true e = ap (λ (n : ℕ). ltb n 6) (lead_role_again c (ltb-true c 6 e)) ∙ e
lead_tests c false e = ap (λ (r : NoteRole). ltb (role_number_of r) 6) (no_lead_role c (ltb-false c 6 e))

back_tests : (t : Bool) → eqb (role_number_of (cond t NoteRole.Backing NoteRole.Quote)) 6 ≡ t
back_tests true = refl
back_tests false = refl

pub role_tests : (leads : Bool) (c : ℕ) → role_within Edition.Two leads (role_coded leads c) ≡ cond leads (ltb c 6) (eqb c 6)
unfolding role_within
role_tests true c = lead_tests c (ltb c 6) refl
role_tests false c = back_tests (eqb c 6)

pub role_again : (leads : Bool) (c : ℕ) → role_within Edition.Two leads (role_coded leads c) ≡ true → role_number_of (role_coded leads c) ≡ c
role_again true c e = lead_role_again c (ltb-true c 6 (sym (role_tests true c) ∙ e))
role_again false c e = let six = sym (role_tests false c) ∙ e in rw six (sym (eqb-true c 6 six))

pub dip_again : (c : ℕ) → c < 2 → cond (eqb c 1) 1 0 ≡ c
unfolding all_to
dip_again = same_to (λ c. cond (eqb c 1) 1 0) 2 refl

pub plays_again : (c : ℕ) → c < 16 → bits_of (plays_coded c) ≡ c
unfolding all_to plays_coded
plays_again = same_to (λ c. bits_of (plays_coded c)) 16 refl

-- ---- endings
-- whatever the bars
code_again : (c b : ℕ) → c < 4 → end_code_of (end_coded c b) ≡ c
unfolding all_to end_coded
code_again c b h = same_to (λ c. end_code_of (end_coded c b)) 4 refl c h

bars_again : (b : ℕ) → (eqb b 4 || eqb b 8) ≡ true → count_of (bars_coded b) ≡ b
bars_again b = go (eqb b 4) refl
  where
    go : (t : Bool) → eqb b 4 ≡ t → (t || eqb b 8) ≡ true → count_of (cond t Bars.Four Bars.Eight) ≡ b
    go true e k = sym (eqb-true b 4 e)
    go false e k = sym (eqb-true b 8 k)

warm_bars : (t : Bool) (n : Bars) (e : Edge) → end_bars_of (cond t (End.Plain n) (End.Edged n e)) ≡ count_of n
warm_bars true n e = refl
warm_bars false n e = refl

pub end_again : (c b : ℕ) → end_known c b ≡ true → (end_code_of (end_coded c b) ≡ c) × (end_bars_of (end_coded c b) ≡ b)
unfolding end_known end_coded
end_again c b = go (eqb c 0) refl
  where
    go : (t : Bool) → eqb c 0 ≡ t → cond t (eqb b 0) (leb c 3 && (eqb b 4 || eqb b 8)) ≡ true
        → (end_code_of (end_coded c b) ≡ c) × (end_bars_of (cond t End.Cold (cond (eqb c 1) (End.Plain (bars_coded b)) (End.Edged (bars_coded b) (edge_coded c)))) ≡ b)
    go true e k = let z = eqb-true c 0 e in (code_again c b (omega arith), sym (eqb-true b 0 k))
    go false e k =
        let known = both (leb c 3) (eqb b 4 || eqb b 8) k in
        let few = leb-true c 3 known.0 in
        (code_again c b (omega arith), warm_bars (eqb c 1) (bars_coded b) (edge_coded c) ∙ bars_again b known.1)

pub outro_again : (c b : ℕ) → outro_known c b ≡ true → (outro_code_of (outro_coded c b) ≡ c) × (outro_length_of (outro_coded c b) ≡ b)
unfolding outro_known outro_coded
outro_again c b = go (eqb c 4) refl
  where
    go : (t : Bool) → eqb c 4 ≡ t → cond t (eqb b 2) (end_known c b) ≡ true
        → (outro_code_of (cond t Outro.RingOut (Outro.Ends (end_coded c b))) ≡ c) × (outro_length_of (cond t Outro.RingOut (Outro.Ends (end_coded c b))) ≡ b)
    go true e k = (sym (eqb-true c 4 e), sym (eqb-true b 2 k))
    go false e k = end_again c b k
