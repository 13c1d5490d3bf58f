-- One turn more of the converters' loops.
-- Assumes nothing.
use Rattle.units.proofs.Common.{sym, ◌∙◌, ◌≡◌, refl, ap, List, [], ◌∷◌, ◌++◌, map, append_assoc, append-nil, ℕ, ◌≤◌, ◌-◌, ◌+◌, ◌<◌, suc}
use Rattle.units.proofs.Common.{zero, add-zero, zero-add, add-one, arith, length, drop, get_or, take, set, length-drop, replicate}
use Rattle.units.proofs.Common.{length-append, length-take, take-append-drop, drop_at, take-suc}
use Rattle.units.proofs.Common.{take-suc-set, take_all}
use Rattle.units.proofs.PackingLaws.{sets_full}
use native.Mathlib.Nat.{add_assoc}
use Rattle.units.specs.declared.Words.{Words}
use Rattle.machine.proofs.Terms.{counts}
use Rattle.state.specs.declared.node.Node.{Node}
use Rattle.lists.specs.Room.{sum, place_of}
use lib.Seq.{take_at, drop-drop}
use Rattle.std.proofs.lemmas.List.{drop-replicate, map-append}
use Rattle.std.proofs.lemmas.List.Edits.{sets, sets-eq}
use Rattle.placed.proofs.InOrder.{blank, node_any}
use Rattle.placed.specs.Walked.{words_of}
use Rattle.placed.specs.declared.Node as O
use Rattle.convert.specs.Convert.{held_by, runs_of, new_store, old_nodes, EachInside}

-- ---- words copied in
-- behind those that stand there
pub laid_more : (d p o zs : List ℕ) (to n : ℕ) → to ≡ length p → o ≡ p ++ drop to d → length zs ≡ n → to + n ≤ length d
    → sets o to zs ≡ (p ++ zs) ++ drop (to + n) d
laid_more d p o zs to n t e l h =
    let m : length o ≡ length d = rw (e, length-append, length-drop) (omega arith) in
    let before = take_at p (drop to d) to (sym t) in
    let behind = drop_at p (drop to d) to (sym t) in
    sets-eq zs o to (omega arith) ∙ rw (l, e, before, ← drop-drop, behind, drop-drop, append_assoc)

-- over all words
pub laid_over : (s o : List ℕ) → length o ≡ length s → sets s 0 o ≡ o
laid_over s o e = sets_full o s (omega arith) ∙ take_all (length s) o (omega arith)

-- copied to the front of zeros
pub new_is : (s : List ℕ) (ns : List O.Node) (n : ℕ) → length s ≡ n
    → runs_of s ns ++ drop (length (runs_of s ns)) (replicate n 0) ≡ new_store s ns
unfolding new_store
new_is s ns n e = rw (e, drop-replicate)

-- ---- the words of all lists: one node more
abbrev pub run : List ℕ → O.Node → List ℕ
run store n = take n.list.words.0 (drop n.list.place store)

pub length_run : (store : List ℕ) (n : O.Node) → n.list.place + n.list.words.0 ≤ length store → length (run store n) ≡
    n.list.words.0
length_run store n h = simp (length-take, length-drop) (omega arith)

runs_append : (store : List ℕ) (xs ys : List O.Node) → runs_of store (xs ++ ys) ≡ runs_of store xs ++ runs_of store ys
unfolding runs_of
runs_append store [] ys = refl
runs_append store (x ∷ xs) ys = rw (runs_append store xs ys, append_assoc)

pub runs_more : (store : List ℕ) (d : O.Node) (ns : List O.Node) (k : ℕ) → k < length ns
    → runs_of store (take (k + 1) ns) ≡ runs_of store (take k ns) ++ run store (get_or ns k d)
unfolding runs_of
runs_more store d ns k h = rw (add-one, take-suc ns k d h, runs_append, append-nil)

pub runs_fewer : (store : List ℕ) (ns : List O.Node) (k : ℕ) → length (runs_of store (take k ns)) ≤ length (runs_of store ns)
runs_fewer store ns k =
    let e : runs_of store (take k ns) ++ runs_of store (drop k ns) ≡ runs_of store ns =
    sym (runs_append store (take k ns) (drop k ns)) ∙ ap (runs_of store) (take-append-drop k ns) in
    omega (arith, simp length-append at (ap length e))

-- the list at k lies inside the store, and its words have room behind those of the lists before it
pub record Turn (st : List ℕ) (ns : List O.Node) (room k to : ℕ) : Type 0 where
  pub inside : (get_or ns k blank).list.place + (get_or ns k blank).list.words.0 ≤ length st
  pub more : runs_of st (take (k + 1) ns) ≡ runs_of st (take k ns) ++ run st (get_or ns k blank)
  pub wide : length (run st (get_or ns k blank)) ≡ (get_or ns k blank).list.words.0
  pub next : to + (get_or ns k blank).list.words.0 ≡ length (runs_of st (take (k + 1) ns))
  pub fits : to + (get_or ns k blank).list.words.0 ≤ room

pub turn : (st : List ℕ) (ns : List O.Node) (room k to : ℕ) → k < length ns → EachInside (length st) ns → length (runs_of st ns) ≤ room
    → to ≡ length (runs_of st (take k ns)) → Turn st ns room k to
turn st ns room k to h e r t =
    let n = get_or ns k blank in
    let i : n.list.place + n.list.words.0 ≤ length st = rw (node_any ns k h) (e k h) in
    let m = runs_more st blank ns k h in
    let w = length_run st n i in
    let g = ap length m ∙ length-append (runs_of st (take k ns)) (run st n) in
    let x : to + n.list.words.0 ≡ length (runs_of st (take (k + 1) ns)) = omega arith in
    record { inside = i; more = m; wide = w; next = x; fits = omega (arith, runs_fewer st ns (k + 1)) }

-- ---- an array that a loop fills: one element more
pub map_filled : {A B : Type 0} (f : A → B) (ns : List A) (out : List B) (k : ℕ) (d : A) (m : B) → k < length ns → k < length out
    → take k out ≡ map f (take k ns) → m ≡ f (get_or ns k d) → take (k + 1) (set out k m) ≡ map f (take (k + 1) ns)
map_filled f ns out k d m h l e g = rw (add-one, take-suc-set out k m l, take-suc ns k d h, map-append, e, g)

old_append : (to : ℕ) (xs ys : List Node) (gs hs : List Words) → length xs ≡ length gs
    → old_nodes to (xs ++ ys) (gs ++ hs) ≡ old_nodes to xs gs ++ old_nodes (to + sum (counts gs)) ys hs
unfolding old_nodes sum
old_append to [] ys [] hs l = rw add-zero
old_append to [] ys (g ∷ gs) hs l = absurd (omega arith)
old_append to (x ∷ xs) ys [] hs l = absurd (omega arith)
old_append to (x ∷ xs) ys (g ∷ gs) hs l = rw (old_append (to + g.0) xs ys gs hs (omega arith), add_assoc)

counts_taken : (hs : List Words) (k : ℕ) → counts (take k hs) ≡ take k (counts hs)
counts_taken [] zero = refl
counts_taken [] (suc k) = refl
counts_taken (h ∷ hs) zero = refl
counts_taken (h ∷ hs) (suc k) = ap (λ (l : List ℕ). h.0 ∷ l) (counts_taken hs k)

pub old_filled : (ns : List Node) (hs : List Words) (out : List O.Node) (k to : ℕ) (d : Node) (e : Words) (m : O.Node) → k < length ns
    → length hs ≡ length ns → k < length out → to ≡ place_of (counts hs) k → take k out ≡ old_nodes 0 (take k ns) (take k hs)
    → m ∷ [] ≡ old_nodes to (get_or ns k d ∷ []) (get_or hs k e ∷ []) → take (k + 1) (set out k m) ≡ old_nodes 0 (take (k + 1) ns)
    (take (k + 1) hs)
old_filled ns hs out k to d e m h z l t f g =
    let s : to ≡ 0 + sum (counts (take k hs)) = rw (zero-add, counts_taken) t in
    let y : length (take k ns) ≡ length (take k hs) = simp length-take (omega arith) in
    rw (
      add-one,
      take-suc-set out k m l,
      take-suc ns k d h,
      take-suc hs k e (omega arith),
      old_append 0 (take k ns) _ (take k hs) _ y,
      f,
      g,
      s,
    )

-- the words that the nodes hold, as numbers and as they stand
pub helds_are : (hs : List Words) (ns : List O.Node) → counts hs ≡ words_of ns → hs ≡ map held_by ns
helds_are [] [] e = refl
helds_are [] (n ∷ ns) e = absurd (let z : ◌≡◌ {A = ℕ} 0 1 = cc in omega arith)
helds_are (h ∷ hs) [] e = absurd (let z : ◌≡◌ {A = ℕ} 0 1 = cc in omega arith)
helds_are (h ∷ hs) (n ∷ ns) e =
    let p : h.0 ≡ n.list.words.0 = cc in
    let q : counts hs ≡ words_of ns = cc in
    ap (λ (k : ℕ). record { 0 = k } ∷ hs) p ∙ ap (λ (l : List Words). held_by n ∷ l) (helds_are hs ns q)
