-- Each byte is below 16, so that 6 more stay within it: its carry is that of its own digit.
use Rattle.text.proofs.Writing.{digit_is, lowest}
use Rattle.units.proofs.Common.{◌≡◌, ℕ, ◌+◌, ◌<◌, ◌*◌, ◌%◌, ◌/◌, arith, rules}
use Rattle.text.specs.Text.{digit_of}
use Rattle.wordsout.proofs.digits.Goals as goal

abbrev summed : ℕ → ℕ → ℕ → ℕ → ℕ
summed p q r s = p + q * 256 + r * 65536 + s * 16777216

abbrev carried : ℕ → ℕ
carried z = z / 16 % 2 + z / 4096 % 2 * 256 + z / 1048576 % 2 * 65536 + z / 268435456 * 16777216

carries : (p q r s : ℕ) → p < 16 → q < 16 → r < 16 → s < 16
    → carried (summed p q r s + 101058054) ≡ summed ((p + 6) / 16) ((q + 6) / 16) ((r + 6) / 16) ((s + 6) / 16)
carries p q r s hp hq hr hs =
    let z = summed p q r s + 101058054 in
    let cp : z / 16 % 2 ≡ (p + 6) / 16 = lowest 2 (8 * (q + 6) + 2048 * (r + 6) + 524288 * (s + 6)) (omega arith) (omega arith) in
    let cq : z / 4096 % 2 ≡ (q + 6) / 16 = lowest 2 (8 * (r + 6) + 2048 * (s + 6)) (omega arith) (omega arith) in
    let cr : z / 1048576 % 2 ≡ (r + 6) / 16 = lowest 2 (8 * (s + 6)) (omega arith) (omega arith) in
    let cs : z / 268435456 ≡ (s + 6) / 16 = omega arith in
    rw (cp, cq, cr, cs)

all_four : (p q r s : ℕ) → p < 16 → q < 16 → r < 16 → s < 16
    → summed p q r s + 808464432 + carried (summed p q r s + 101058054) * 7
    ≡ digit_of p + 256 * digit_of q + 65536 * digit_of r + 16777216 * digit_of s
all_four p q r s hp hq hr hs =
    rw (carries p q r s hp hq hr hs, ← (digit_is p hp), ← (digit_is q hq), ← (digit_is r hr), ← (digit_is s hs)) (omega arith)

pub returns : goal.returns
returns c =
    all_four (c.args.w / 4096) (c.args.w / 256 % 16) (c.args.w / 16 % 16) (c.args.w % 16)
    (search rules) (search rules) (search rules) (search rules)
