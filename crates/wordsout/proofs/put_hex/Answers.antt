-- The four bytes of one number are the digits.
-- Assumes nothing.
use Rattle.text.proofs.Writing.{put_as, digit_small, lowest}
use Rattle.units.proofs.Common.{◌∙◌, ◌≡◌, [], ◌∷◌, ℕ, ◌+◌, ◌<◌, ◌*◌, ◌%◌, ◌/◌, arith, rules}
use Rattle.std.specs.Int.{w32, to_le_bytes}
use Rattle.text.specs.Text.{hex_of}
use Rattle.wordsout.proofs.put_hex.Goals as goal

four : {f p q r s : ℕ} → f ≡ p + 256 * q + 65536 * r + 16777216 * s → p < 256 → q < 256 → r < 256 → s < 256
    → to_le_bytes w32 f ≡ p ∷ q ∷ r ∷ s ∷ []
four {f} {p} {q} {r} {s} e hp hq hr hs =
    let bp : f % 256 ≡ p = lowest 256 (q + 256 * r + 65536 * s) (omega arith) hp in
    let bq : f / 256 % 256 ≡ q = lowest 256 (r + 256 * s) (omega arith) hq in
    let br : f / 65536 % 256 ≡ r = lowest 256 s (omega arith) hr in
    let bs : f / 16777216 % 256 ≡ s = omega arith in
    rw (bp, bq, br, bs)

pub returns : goal.returns
unfolding hex_of
returns c =
    let w = c.args.w in
    let digits = four c.digits.ensures
    (digit_small (w / 4096) (search rules))
    (digit_small (w / 256 % 16) (search rules))
    (digit_small (w / 16 % 16) (search rules))
    (digit_small (w % 16) (search rules)) in
    put_as (c.to_le_bytes.ensures ∙ digits) c.put_text.ensures
