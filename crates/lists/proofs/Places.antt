-- Where a node's answers begin, and where the last ones end: what the charges say of it. Any number of nodes.
-- Assumes nothing.
use Rattle.units.proofs.Common.{◌∙◌, ◌≡◌, ap, true, List, [], ◌∷◌, ℕ, ◌≤◌, ◌+◌, ◌<◌, suc, zero, add-one, arith, length, drop, get_or, take}
use Rattle.units.proofs.Common.{take_all, leb-true, and_true}
use Rattle.meaning.proofs.Terms.{Bench}
use Rattle.machine.proofs.Terms.{charges_of, bounded}
use Rattle.lists.specs.Room.{sum, place_of}
use Rattle.lists.proofs.Charges.{limited}

-- the words of one node more
sum_more : (hs : List ℕ) (i : ℕ) → i < length hs → sum (take (suc i) hs) ≡ sum (take i hs) + get_or hs i 0
unfolding sum
sum_more [] i h = absurd (omega arith)
sum_more (x ∷ hs) zero h = omega arith
sum_more (x ∷ hs) (suc i) h =
    let r : sum (take (suc i) hs) ≡ sum (take i hs) + get_or hs i 0 = sum_more hs i (omega arith) in
    omega arith

pub place_suc : (hs : List ℕ) (i : ℕ) → i < length hs → place_of hs (i + 1) ≡ place_of hs i + get_or hs i 0
place_suc hs i h = ap (λ (n : ℕ). sum (take n hs)) (add-one i) ∙ sum_more hs i h

-- where the store is free
pub place_all : (hs : List ℕ) (i : ℕ) → length hs ≤ i → place_of hs i ≡ sum hs
place_all hs i h = ap sum (take_all i hs h)

-- the words before a place and those from it on
pub sum_split : (hs : List ℕ) (i : ℕ) → sum hs ≡ place_of hs i + sum (drop i hs)
unfolding sum
sum_split [] zero = omega arith
sum_split [] (suc i) = omega arith
sum_split (x ∷ hs) zero = omega arith
sum_split (x ∷ hs) (suc i) = let r : sum hs ≡ sum (take i hs) + sum (drop i hs) = sum_split hs i in omega arith

pub place_in : (hs : List ℕ) (i : ℕ) → place_of hs i ≤ sum hs
place_in hs i = let e = sum_split hs i in omega arith

-- a charge is at least the words
pub sum_charges : (share : ℕ) (hs : List ℕ) → sum hs ≤ charges_of share hs
unfolding sum charges_of
sum_charges share [] = omega arith
sum_charges share (x ∷ hs) = let r : sum hs ≤ charges_of share hs = sum_charges share hs in omega arith

-- so that all answers lie inside the store
pub bounded_sum : (b : Bench) (hs : List ℕ) → bounded b hs ≡ true → sum hs ≤ b.store
unfolding bounded
bounded_sum b hs h =
    let c : charges_of b.share hs ≤ b.store = leb-true _ _ (and_true (limited b.limit hs) _ h).1 in
    let s = sum_charges b.share hs in
    omega arith
