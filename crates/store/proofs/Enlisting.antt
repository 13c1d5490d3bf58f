-- Lists swept, and an answer enlisted: swept words keep the bounds, places lie in the store, counts fit. Any bench.
-- Assumes nothing.
use Rattle.units.proofs.Common.{◌≡◌, refl, true, List, [], ◌∷◌, ℕ, ◌≤◌, ◌+◌, ◌<◌, arith, leb, length, get_or, set, replicate}
use Rattle.units.proofs.Common.{length-replicate, le-leb, leb-true, every, and_true}
use Rattle.units.specs.declared.Words.{Words}
use Rattle.meaning.proofs.Terms.{Bench}
use Rattle.machine.proofs.Terms.{nothing, charges_of, bounded, counts}
use Rattle.state.proofs.Lists.{both}
use Rattle.lists.specs.Room.{room_for, place_of}
use Rattle.lists.proofs.Charges.{count_at, length_words}
use Rattle.lists.proofs.Places.{place_all, place_in, sum_charges, bounded_sum}
use Rattle.store.specs.Swept.{swept_words}
use Rattle.store.specs.declared.Broom.{Broom}
use Rattle.store.specs.declared.Broom.TheVariants as B
use Rattle.store.proofs.Promised.{sum_set}

-- the arm `_` beside Broom::Nothing
pub sweeping : (P : Broom → Type 0) (z : Broom) → (z ≡ B.Nothing → ⊥) → P B.Clear → P B.Reset → P z
sweeping P B.Nothing e c r = absurd (e refl)
sweeping P B.Clear e c r = c
sweeping P B.Reset e c r = r

-- ---- swept words
pub swept_long : (z : Broom) (hs : List Words) → length (swept_words z hs) ≡ length hs
unfolding swept_words
swept_long B.Nothing hs = refl
swept_long B.Clear hs = length-replicate (length hs) nothing
swept_long B.Reset hs = length-replicate (length hs) nothing

none_charged : (b : Bench) (hs : List Words) → (every (λ h. leb h b.limit) (counts (replicate (length hs) nothing)) ≡ true)
    × (charges_of b.share (counts (replicate (length hs) nothing)) ≤ charges_of b.share (counts hs))
unfolding every charges_of
none_charged b [] = (refl, omega arith)
none_charged b (h ∷ hs) =
    let r = none_charged b hs in
    let k : charges_of b.share (counts (replicate (length hs) nothing)) ≤ charges_of b.share (counts hs) = r.1 in
    (both (le-leb 0 b.limit (omega arith)) r.0, omega arith)

none_bounded : (b : Bench) (hs : List Words) → bounded b (counts hs) ≡ true → bounded b (counts (replicate (length hs) nothing)) ≡ true
unfolding bounded
none_bounded b hs o =
    let n = none_charged b hs in
    let c : charges_of b.share (counts hs) ≤ b.store = leb-true _ _ (and_true (every (λ h. leb h b.limit) (counts hs)) _ o).1 in
    let k : charges_of b.share (counts (replicate (length hs) nothing)) ≤ b.store = omega (arith, n.1) in
    both n.0 (le-leb _ _ k)

pub swept_bounded : (b : Bench) (z : Broom) (hs : List Words) → bounded b (counts hs) ≡ true → bounded b (counts (swept_words z hs)) ≡ true
unfolding swept_words
swept_bounded b B.Nothing hs o = o
swept_bounded b B.Clear hs o = none_bounded b hs o
swept_bounded b B.Reset hs o = none_bounded b hs o

-- ---- places lie in the store
pub place_inside : (b : Bench) (hs : List ℕ) (k : ℕ) → bounded b hs ≡ true → place_of hs k ≤ b.store
place_inside b hs k o = omega (arith, place_in hs k, bounded_sum b hs o)

pub place_ordered : (hs : List Words) (i k : ℕ) → length hs ≤ k → place_of (counts hs) i ≤ place_of (counts hs) k
place_ordered hs i k l = omega (arith, place_in (counts hs) i, place_all (counts hs) k (omega (arith, length_words hs)))

-- ---- an answer that has room: it fits behind all others, and its node's count stays small
module _ (b : Bench) (hs : List Words) (i words : ℕ) (r : room_for b (counts hs) i words ≡ true) where
  pub room_count : (get_or hs i nothing).0 + words ≤ b.limit
  unfolding room_for
  room_count =
      let c : get_or (counts hs) i 0 + words ≤ b.limit = leb-true _ _ (and_true (leb (get_or (counts hs) i 0 + words) b.limit) _ r).0 in
      omega (arith, count_at hs i)

  pub room_fits : (k : ℕ) → i < length hs → length hs ≤ k → place_of (counts hs) k + words ≤ b.store
  unfolding room_for
  room_fits k h l =
      let v : ℕ = get_or (counts hs) i 0 + words in
      let c : charges_of b.share (set (counts hs) i v) ≤ b.store = leb-true _ _ (and_true (leb v b.limit) _ r).1 in
      let n = length_words hs in
      let e = place_all (counts hs) k (omega arith) in
      omega (arith, c, e, sum_charges b.share (set (counts hs) i v), sum_set (counts hs) i words (omega arith))
