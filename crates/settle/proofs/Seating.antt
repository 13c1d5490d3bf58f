-- What was decided at a reader, put back into any machine that the parts are of, is the outcome that the definition settles.
-- Assumes nothing.
use Rattle.units.proofs.Common.{sym, ◌∙◌, ◌≡◌, refl, ap, subst, true, false, Bool, List, ◌++◌, append_assoc, append-nil, ℕ}
use Rattle.units.proofs.Common.{◌≤◌, ◌-◌, ◌+◌, ◌<◌, ◌*◌, add-zero, arith, length, drop, get_or, take, replicate, drop_of_length-le}
use Rattle.units.proofs.Common.{length-replicate, take_all, paste, slice, set-get_or, bytes_of}
use lib.Seq.{length-paste}
use borrow.Rule.Slice.PartMut.{put_mid, Post-is, put_same}
use Rattle.units.specs.declared.Words.{Words}
use Rattle.meaning.specs.Bench.{memory_size}
use Rattle.meaning.proofs.Terms.{full, is_reader, well_formed, set_reader, Said, refused, queued, Local, Try, lifted, settled}
use Rattle.meaning.specs.Gateway as M
use Rattle.demands.specs.Sound.{full_sound}
use Rattle.machine.proofs.Terms.{fresh_reader, fresh_node, Machine, machine, meaning, reader_of, region_of, node_at, counts, unfit}
use Rattle.state.specs.declared.node.Node.{Node}
use Rattle.state.specs.declared.reader.Reader.{Reader}
use Rattle.state.specs.declared.State.{State}
use Rattle.state.proofs.Lists.{get_d_any}
use Rattle.machine.proofs.Read.{blank}
use Rattle.lists.specs.Room.{room_for}
use Rattle.store.specs.Swept.{swept_words, swept_store, Enlistable, Enlists}
use Rattle.store.specs.declared.Enlisted.{Enlisted}
use Rattle.store.specs.declared.Broom.TheVariants as B
use Rattle.promise.specs.Obeyed.{said_of, Does}
use Rattle.promise.specs.declared.Reply.{Reply}
use Rattle.promise.proofs.Parts.{parts, Means}
use Rattle.promise.proofs.Tables.{reader_range, reader_node, reader_slot}
use Rattle.promise.proofs.Regions.{Within, region_paste, region_long, pasted}
use Rattle.promise.proofs.Readers.{with_reader, reader_changed}
use Rattle.promise.proofs.Promises.{AtReader, refusing}
use Rattle.promise.proofs.Formed.{reader_index}
use Rattle.answers.specs.Decided.{told, Formed}
use Rattle.answers.proofs.Cuts.{cut}
use Rattle.answers.proofs.Indices.{blank_reader}
use Rattle.answers.specs.declared.Verdict.{Verdict}
use Rattle.answers.specs.declared.Verdict.TheVariants as W
use Rattle.decided.specs.Decided.{altered, Suits}
use Rattle.decided.specs.Decided as O
use Rattle.decided.specs.declared.Change.{Change}
use Rattle.decided.specs.declared.Change.TheVariants as C
use Rattle.decided.specs.declared.Decided.{Decided}
use Rattle.settle.specs.declared.Seated.{Seated}
use Rattle.settle.specs.Settled.{Seat, seated, Seatable, Settles, memory_after}
use Rattle.settle.proofs.Settling.{due_refused, due_joined, enlisted, enlistable}

-- ---- a region altered, and put back into the memory
pub altered_long : (c : Change) (ws region : List ℕ) → Suits c ws (length region) → length (altered c ws region) ≡ length region
unfolding Suits altered
altered_long C.Kept ws region h = refl
altered_long (C.Filled start size byte) ws region h =
    length-paste region start (replicate size byte) size h (let l = length-replicate size byte in omega arith)
altered_long (C.Written start size) ws region h = length-paste region start (bytes_of ws) size h.0 h.1

module _ (n : ℕ) (is : is_reader full n ≡ true) (memory : List ℕ) (long : length memory ≡ memory_size full) where
  -- the part of the plaque memory that code lends
  abbrev pub Lent : List ℕ
  Lent = take ((n - 1) * full.region + full.region - (n - 1) * full.region) (drop ((n - 1) * full.region) memory)

  pub lent_inside : (n - 1) * full.region + full.region ≤ length memory
  lent_inside = omega (arith, reader_range full n is, long)

  pub lent_is : Lent ≡ region_of full memory n
  unfolding region_of
  lent_is =
      let r = reader_range full n is in
      let e : (n - 1) * full.region + full.region ≡ n * full.region = omega arith in
      cut memory ((n - 1) * full.region) full.region lent_inside ((n - 1) * full.region + full.region - (n - 1) * full.region)
      (omega arith)
      ∙ ap (λ (k : ℕ). slice ((n - 1) * full.region) k memory) e

  pub lent_long : length Lent ≡ full.region
  lent_long = ap length lent_is ∙ region_long full n memory is long

  -- altered, and back in its place
  pub put_back : (c : Change) (ws ys : List ℕ) → Suits c ws full.region → ys ≡ altered c ws Lent
      → put_mid ((n - 1) * full.region) ((n - 1) * full.region + full.region - (n - 1) * full.region) memory ys
      ≡ paste memory ((n - 1) * full.region) (altered c ws (region_of full memory n)) full.region
  put_back c ws ys h y =
      let f : ℕ = (n - 1) * full.region in
      let l : length ys ≡ full.region = ap length y ∙ altered_long c ws Lent (subst (Suits c ws) (sym lent_long) h) ∙ lent_long in
      ap (λ (r : List ℕ). take f memory ++ (ys ++ r)) (Post-is f (f + full.region) memory (omega arith))
      ∙ ap (λ (r : List ℕ). take f memory ++ (r ++ drop (f + full.region) memory)) (sym (take_all full.region ys (omega arith)))
      ∙ sym (append_assoc (take f memory) (take full.region ys) (drop (f + full.region) memory))
      ∙ ap (λ (r : List ℕ). paste memory f r full.region) (y ∙ ap (altered c ws) lent_is)

-- ---- a reader's call
-- the parts put back as they were
pub still : (n : ℕ) (own : Node) (x : Reader) (held : List Words) (s : State) (p : Reply) → Seat n own x held s
    → seated s n (record { node = own; held = held; reader = x; reply = p }) ≡ s
still n own x held s p a =
    rw (← a.node, ← a.reader, ← a.helds, set-get_or s.nodes (n - 1) fresh_node, set-get_or s.readers (n - 1) fresh_reader)

due_formed : (n : ℕ) → is_reader full n ≡ true → {answer : List ℕ} {d : Decided} → O.Settles full n d answer → d.verdict ≡ W.Due
    → well_formed full (node_at full (n - 1)) (take d.words.0 answer) ≡ true
unfolding Formed
due_formed n is {answer} {d} s v =
    ap (λ (i : ℕ). well_formed full i (take d.words.0 answer)) (reader_index full n is)
    ∙ subst (λ (v : Verdict). Formed full n v (take d.words.0 answer)) v s.formed

module _ (m : Machine) (fit : unfit full m ≡ 0) (n : ℕ) (is : is_reader full n ≡ true) (ws : List ℕ) {answer : List ℕ} {d : Decided}
    (s : O.Settles full n d answer) (suits : Suits d.change ws full.region) where
  abbrev region' : List ℕ
  region' = altered d.change ws (region_of full m.memory n)

  region'_long : length region' ≡ full.region
  region'_long =
      let l = region_long full n m.memory is (parts full m fit).memory in
      altered_long d.change ws (region_of full m.memory n) (subst (Suits d.change ws) (sym l) suits) ∙ l

  -- the machine with the effect
  abbrev served : Machine
  served = machine (with_reader m.state (n - 1) d.after) m.store (paste m.memory ((n - 1) * full.region) region' full.region)

  served_means : Means full served (set_reader n (reader_of d.after region') (meaning full m))
  served_means =
      let p = parts full m fit in
      let k : length region' ≡ full.region = region'_long in
      let z : paste m.memory ((n - 1) * full.region + 0) region' full.region ≡ paste m.memory ((n - 1) * full.region) region'
      full.region =
      ap (λ (f : ℕ). paste m.memory f region' full.region) (add-zero ((n - 1) * full.region)) in
      let h : Within full n m.memory (paste m.memory ((n - 1) * full.region) region' full.region) =
      subst (Within full n m.memory) z (pasted full n m.memory is p.memory 0 region' full.region (omega arith) (omega arith)) in
      let q : region_of full (paste m.memory ((n - 1) * full.region) region' full.region) n ≡ region' =
      ap (λ (f : List ℕ). region_of full f n) (sym z)
      ∙ region_paste full n m.memory is p.memory 0 region' full.region (omega arith) (omega arith)
      ∙ whole (region_of full m.memory n) region' (region_long full n m.memory is p.memory) k in
      reader_changed full m n is d.after _ h fit s.in_order (reader_of d.after region') (ap (reader_of d.after) q)
    where
      whole : (r r' : List ℕ) → length r ≡ full.region → length r' ≡ full.region → paste r 0 r' full.region ≡ r'
      whole r r' a b =
          ap (λ (t : List ℕ). t ++ drop full.region r) (take_all full.region r' (omega arith))
          ∙ ap (λ (t : List ℕ). r' ++ t) (drop_of_length-le r {i = full.region} (omega arith)) ∙ append-nil r'

  -- what the definition's reader makes of it
  abbrev made : Local M.Reader
  made = O.decided d ws (region_of full m.memory n) answer

  served_refused : {k : ℕ} → d.verdict ≡ W.Refused k → AtReader full m n made (refused k) m
  unfolding told
  served_refused {k} v = refusing full m (set_reader n) n (ap (λ (v : Verdict). told v (reader_of d.after region')
      (take d.words.0 answer)) v)

  module _ (v : d.verdict ≡ W.Due) where
    abbrev w : List ℕ
    w = take d.words.0 answer

    by_due : (a : Said) (m' : Machine)
        → Does full (settled full (meaning full m) (Try.due n (set_reader n (reader_of d.after region') (meaning full m)) w)) m a m'
        → AtReader full m n made a m'
    unfolding told lifted
    by_due a m' k =
        subst (λ (l : Local M.Reader). AtReader full m n l a m') (ap (λ (v : Verdict). told v (reader_of d.after region') w) (sym v)) k

    served_13 : room_for full (counts m.state.held) (n - 1) (length w) ≡ false → AtReader full m n made (refused 13) m
    served_13 f =
        by_due _ _ (due_refused m n (n - 1) (reader_node full n is) (reader_slot full full_sound n is) _ w (due_formed n is s v) served
        served_means f)

    served_queued : room_for full (counts m.state.held) (n - 1) (length w) ≡ true
        → AtReader full m n made queued
        (enlisted m n (n - 1) (reader_node full n is) (reader_slot full full_sound n is) _ w (due_formed n is s v) served served_means)
    served_queued f =
        by_due _ _ (due_joined m n (n - 1) (reader_node full n is) (reader_slot full full_sound n is) _ w (due_formed n is s v) served
        served_means f)

-- ---- as `seat` promises it
module _ {n : ℕ} {own : Node} {x : Reader} {held : List Words} {store memory : List ℕ} (a : Seatable full n own x held store memory) where
  abbrev whole : Machine
  whole = machine a.state store memory

  pub memory_long : length memory ≡ memory_size full
  memory_long = (parts full whole a.fit).memory

  -- its index, among readers and among nodes
  pub index : (1 ≤ n) × (n - 1 < full.readers)
  index = let r = reader_range full n a.is in (r.0, omega arith)

  pub seat_enlistable : {answer : List ℕ} {d : Decided} → O.Settles full n d answer → d.verdict ≡ W.Due
      → Enlistable full held (n - 1) own (length (take d.words.0 answer)) (length store)
  seat_enlistable {answer} {d} o v =
      let i = index in
      let e = enlistable whole whole a.fit a.fit (n - 1) (omega arith) (take d.words.0 answer) (due_formed n a.is o v) in
      let k : get_or a.state.nodes (n - 1) blank ≡ own =
      get_d_any a.state.nodes (n - 1) blank fresh_node (omega (arith, (parts full whole a.fit).each_node)) ∙ a.seat.node in
      subst (λ (l : List Words). Enlistable full l (n - 1) own (length (take d.words.0 answer)) (length store)) a.seat.helds
      (subst (λ (j : Node). Enlistable full a.state.held (n - 1) j (length (take d.words.0 answer)) (length store)) k e)

module _ (n : ℕ) (own : Node) (x : Reader) (held : List Words) (store answer : List ℕ) {d : Decided} (is : is_reader full n ≡ true)
    (o : O.Settles full n d answer) where
  abbrev Promised : Seated → List ℕ → Type 0
  Promised r store' = Settles full n own x held d answer store r store'

  pub seats_refused : {k : ℕ} → d.verdict ≡ W.Refused k → Promised (record
      { node = own; held = held; reader = x; reply = Reply.Refused k }) store
  unfolding said_of memory_after
  seats_refused {k} v ws memory f s a fit =
      rw (still n own x held s (Reply.Refused k) a) (served_refused (machine s store memory) fit n is ws o f v)

  module _ (v : d.verdict ≡ W.Due) {store' : List ℕ} {q : Enlisted}
      (e : Enlists full B.Nothing held (n - 1) own (take d.words.0 answer) store store' q) where
    -- room is judged by what the state holds
    room_by : {t : Bool} → q.ok ≡ t → (s : State) → Seat n own x held s
        → room_for full (counts s.held) (n - 1) (length (take d.words.0 answer)) ≡ t
    unfolding swept_words
    room_by f s a = rw a.helds (sym e.room ∙ f)

    pub seats_13 : q.ok ≡ false → Promised (record { node = own; held = held; reader = x; reply = Reply.Refused 13 }) store'
    unfolding said_of memory_after
    seats_13 f ws memory h s a fit =
        rw ((e.no f).2, still n own x held s (Reply.Refused 13) a) (served_13 (machine s store memory) fit n is ws o h v (room_by f s a))

    pub seats_queued : q.ok ≡ true → Promised (record { node = q.node; held = q.held; reader = d.after; reply = Reply.Queued }) store'
    unfolding said_of memory_after swept_words swept_store
    seats_queued f ws memory g s a fit =
        let m : Machine = machine s store memory in
        let r = reader_range full n is in
        let l : n - 1 < length s.nodes = omega (arith, (parts full m fit).each_node) in
        rw ((e.yes f).2, (e.yes f).1, (e.yes f).0, ← a.node, ← a.helds, get_d_any s.nodes (n - 1) fresh_node blank l)
        (served_queued m fit n is ws o g v (room_by f s a))

-- ---- as a caller has it that lends the region
-- a reader's parts are taken out of a consistent machine as code takes them
pub seat_of : (m : Machine) → unfit full m ≡ 0 → (n : ℕ) → is_reader full n ≡ true
    → Seat n (get_or m.state.nodes (n - 1) blank) (get_or m.state.readers (n - 1) blank_reader) m.state.held m.state
seat_of m fit n is =
    let p = parts full m fit in
    let r = reader_range full n is in
    record {
      node = get_d_any m.state.nodes (n - 1) fresh_node blank (omega (arith, p.each_node));
      reader = get_d_any m.state.readers (n - 1) fresh_reader blank_reader (omega (arith, p.each_reader));
      helds = refl;
    }

-- what is then in the plaque memory: the region altered where an answer was queued, and nothing else anywhere
module _ (n : ℕ) (is : is_reader full n ≡ true) (memory : List ℕ) (long : length memory ≡ memory_size full) (ws : List ℕ) where
  pub queued_back : {p : Reply} → p ≡ Reply.Queued → (c : Change) (ys : List ℕ) → Suits c ws full.region → ys ≡ altered c ws
      (Lent n is memory long)
      → put_mid ((n - 1) * full.region) ((n - 1) * full.region + full.region -
      (n - 1) * full.region) memory ys ≡ memory_after full n p c ws memory
  unfolding memory_after
  queued_back e c ys h y = put_back n is memory long c ws ys h y ∙ ap (λ (p : Reply). memory_after full n p c ws memory) (sym e)

  pub still_back : (p : Reply) (c : Change) → (p ≡ Reply.Queued → ⊥) → memory ≡ memory_after full n p c ws memory
  unfolding memory_after
  still_back (Reply.Refused k) c e = refl
  still_back Reply.Done c e = refl
  still_back Reply.Quiet c e = refl
  still_back Reply.Queued c e = absurd (e refl)

  -- a region kept is the region put back
  pub kept_back : (p : Reply) → memory_after full n p C.Kept ws memory ≡ memory
  unfolding memory_after altered Suits
  kept_back (Reply.Refused k) = refl
  kept_back Reply.Done = refl
  kept_back Reply.Quiet = refl
  kept_back Reply.Queued =
      sym (put_back n is memory long C.Kept ws _ tt refl)
      ∙ put_same ((n - 1) * full.region) ((n - 1) * full.region + full.region - (n - 1) * full.region) memory
