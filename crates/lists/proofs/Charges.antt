-- Held words, charges and room, for any number of nodes and any bench.
-- Assumes nothing.
use Rattle.units.proofs.Common.{◌≡◌, true, false, Bool, List, [], ◌∷◌, ℕ, ◌≤◌, ◌+◌, ◌<◌, suc, zero, max, arith, leb, length, get_or, take}
use Rattle.units.proofs.Common.{set, length-map, get_or-map, le-leb, leb-true, lt-leb, every, yes_and, no_and, and_true}
use Rattle.units.specs.declared.Words.{Words}
use Rattle.meaning.proofs.Terms.{Bench}
use Rattle.machine.proofs.Terms.{counts, charges_of, bounded}
use Rattle.state.proofs.Lists.{every_get}
use Rattle.lists.specs.Room.{room_for}

pub count_at : (ws : List Words) (i : ℕ) → get_or (counts ws) i 0 ≡ (get_or ws i (record { 0 = 0 })).0
count_at ws i = get_or-map (λ w. w.0) ws i (record { 0 = 0 })

-- ---- charges: those of one node more
pub charges_more : (share : ℕ) (l : List ℕ) (i : ℕ) → i < length l
    → charges_of share (take (suc i) l) ≡ charges_of share (take i l) + max share (get_or l i 0)
unfolding charges_of
charges_more share [] i h = absurd (omega arith)
charges_more share (x ∷ l) zero h = omega arith
charges_more share (x ∷ l) (suc i) h =
    let r : charges_of share (take (suc i) l) ≡ charges_of share (take i l) + max share (get_or l i 0) = charges_more share l i (omega arith) in
    omega arith

-- ---- held words, as the state counts them
pub length_words : (hs : List Words) → length (counts hs) ≡ length hs
length_words hs = simp length-map

-- no count passes a limit
abbrev pub limited : ℕ → List ℕ → Bool
limited c = every (λ h. leb h c)

pub limit_at : (c : ℕ) (hs : List ℕ) → limited c hs ≡ true → (i : ℕ) → i < length hs → get_or hs i 0 ≤ c
limit_at c hs h i l = leb-true _ _ (every_get (λ x. leb x c) hs i 0 h l)

pub bounded_at : (b : Bench) (hs : List ℕ) → bounded b hs ≡ true → (i : ℕ) → i < length hs → get_or hs i 0 ≤ b.limit
unfolding bounded
bounded_at b hs h = limit_at b.limit hs (and_true (limited b.limit hs) _ h).0

-- each of a list of counts stays within a limit where one of them is set within it
pub set_within : (l : List ℕ) (i v b : ℕ) → v ≤ b → ((j : ℕ) → j < length l → get_or l j 0 ≤ b) → (j : ℕ) → j < length l
    → get_or (set l i v) j 0 ≤ b
set_within [] i v b h f j g = absurd (omega arith)
set_within (x ∷ l) zero v b h f zero g = h
set_within (x ∷ l) zero v b h f (suc j) g = f (suc j) g
set_within (x ∷ l) (suc i) v b h f zero g = f zero g
set_within (x ∷ l) (suc i) v b h f (suc j) g = set_within l i v b h (λ k q. f (suc k) (omega arith)) j (omega arith)

-- ---- room: the node's own limit, and then the charges
module _ (b : Bench) (hs : List ℕ) (i words : ℕ) where
  pub no_room : b.limit < get_or hs i 0 + words → room_for b hs i words ≡ false
  unfolding room_for
  no_room h = no_and _ (lt-leb _ _ h)

  pub room_by_charges : get_or hs i 0 + words ≤ b.limit
      → room_for b hs i words ≡ leb (charges_of b.share (set hs i (get_or hs i 0 + words))) b.store
  unfolding room_for
  room_by_charges h = yes_and (le-leb _ _ h)
