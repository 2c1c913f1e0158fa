-- The notes on every page, and the composer's promise of their roles, read where each note's last byte stands. Assumes
-- nothing.
use mathlib.Core.Path.{◌≡◌, subst}
use Prim.Native.Nat.{ℕ, ◌<◌}
use native.Mathlib.Omega.{arith}
use Rattle.composer.specs.Compose.{composed_of}
use Rattle.composer.specs.Form.{loop_bar_of}
use Rattle.composer.specs.Form.Promise.{plays_at}
use Rattle.composer.specs.Form.Song.{arrange_of}
use Rattle.composer.specs.Promise.{ScorePromise}
use Rattle.composer.specs.Refusal.{Gives}
use Rattle.composer.specs.declared.form.plays.Plays.{Plays}
use Rattle.composer.specs.declared.score.Score.{Score}
use Rattle.composer.specs.declared.style.Style.{Style}
use Rattle.composer.proofs.ComposeLaws.{song_promise}
use Rattle.composer.proofs.form.Arranged.{arranged_promise}
use Rattle.pages.specs.Demand3.{page_at}
use Rattle.pages.specs.Roles.{IsRole, RolesShown}
use Rattle.pages.proofs.Demand3.{lead_read, keys_read, bass_read}
use Rattle.pages.proofs.ScoreLaws.{lead_role, keys_role, bass_role}

module _ (style : Style) (seed b : ℕ) (p : Plays) (plays : plays_at (arrange_of seed) b ≡ Gives p) where
  abbrev s : Score
  s = (composed_of style seed).score

  abbrev bar : ℕ
  bar = loop_bar_of (arrange_of seed) b

  promise : ScorePromise style s (composed_of style seed).scale
  promise = (song_promise style seed).score

  lead_is : (role : ℕ) → IsRole 0x05 (page_at style seed b) role → role < 6
  lead_is role n =
      let body = lead_read style seed b p plays in
      subst (λ (r : ℕ). r < 6) n.2 (rw body (lead_role style s (composed_of style seed).scale promise bar (omega arith) p.keys n.0 (rw body at n.1)))

  keys_is : (role : ℕ) → IsRole 0x06 (page_at style seed b) role → role ≡ 6
  keys_is role n =
      let body = keys_read style seed b p plays in
      subst (λ (r : ℕ). r ≡ 6) n.2 (rw body (keys_role style s (composed_of style seed).scale promise bar (omega arith) p.keys n.0 (rw body at n.1)))

  bass_is : (role : ℕ) → IsRole 0x08 (page_at style seed b) role → role ≡ 6
  bass_is role n =
      let body = bass_read style seed b p plays in
      subst (λ (r : ℕ). r ≡ 6) n.2 (rw body (bass_role style s (composed_of style seed).scale promise bar (omega arith) p.bass n.0 (rw body at n.1)))

pub roles_shown : (style : Style) (seed : ℕ) → RolesShown style seed
roles_shown style seed = record {
  lead_notes = lead_read style seed;
  keys_notes = keys_read style seed;
  bass_notes = bass_read style seed;
  lead = λ b h. let k = (arranged_promise seed).found b h in lead_is style seed b k.0 k.1;
  keys = λ b h. let k = (arranged_promise seed).found b h in keys_is style seed b k.0 k.1;
  bass = λ b h. let k = (arranged_promise seed).found b h in bass_is style seed b k.0 k.1;
}
