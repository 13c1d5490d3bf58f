-- What was decided of the parts is what the definition's own node makes of the call, on any machine that they are the parts of.
-- Assumes nothing.
use Rattle.units.proofs.Common.{sym, ◌∙◌, ◌≡◌, refl, ap, subst, true, List, [], ℕ, ◌≤◌, ◌-◌, arith, length, get_or, is_stamp}
use Rattle.units.specs.declared.Words.{Words}
use Rattle.units.specs.declared.stamp.Stamp.{Stamp}
use Rattle.meaning.proofs.Terms.{full, hub, overall, Gateway, set_reader, Local, quiet, lifted, settled, obeyed, looked, governed}
use Rattle.meaning.specs.Gateway as M
use Rattle.meaning.specs.declared.table.Kind.{Kind}
use Rattle.meaning.specs.declared.packet.Command.{Command}
use Rattle.demands.specs.Sound.{full_sound}
use Rattle.machine.proofs.Terms.{fresh_node, Machine, machine, meaning, field_of, mode_of, reader_of, region_of, unfit}
use Rattle.state.specs.declared.node.Node.{Node}
use Rattle.state.specs.declared.reader.Reader.{Reader}
use Rattle.state.specs.declared.Name.{Name}
use Rattle.state.specs.declared.State.{State}
use Rattle.state.proofs.Lists.{get_d_any}
use Rattle.machine.proofs.Read.{blank}
use Rattle.promise.specs.Obeyed.{said_of}
use Rattle.promise.specs.declared.Reply.{Reply}
use Rattle.promise.proofs.Parts.{parts}
use Rattle.promise.proofs.Tables.{reader_node, reader_slot, node_hub}
use Rattle.promise.proofs.Readers.{reader_is, reader_in_order}
use Rattle.promise.proofs.Promises.{giving}
use Rattle.promise.proofs.Steps.{same_reader}
use Rattle.promise.proofs.Oldest.{count_is}
use Rattle.answers.specs.Ordered.{load_of, ordered, heeding, looking}
use Rattle.answers.specs.Decided.{bare}
use Rattle.decided.specs.Decided.{Readable, Suits, quietly, Obeys, Looks, decided}
use Rattle.decided.specs.declared.Decided.{Decided}
use Rattle.decided.specs.declared.Change.{Change}
use Rattle.fieldcheck.proofs.Looking.{look_quiet}
use Rattle.desk.specs.Ruled.{title_of, LimitedOf, Governable, Governs}
use Rattle.desk.specs.Ruled as D
use Rattle.desk.specs.declared.Ruled.{Ruled}
use Rattle.settle.specs.Settled.{Seat, Seatable, Seats, Settles, seating, memory_after, Houseable, Houses, housing}
use Rattle.settle.specs.declared.Seated.{Seated}
use Rattle.settle.specs.declared.Housed.{Housed}
use Rattle.settle.proofs.Seating.{Lent, lent_is, lent_long, memory_long, still, kept_back}
use Rattle.acts.proofs.Counts.{obeyed_count, looked_count, governed_count}

-- ---- at a reader
module _ {n : ℕ} {own : Node} {x : Reader} {held : List Words} {store memory : List ℕ} (a : Seatable full n own x held store memory) where
  pub readable : {t : Stamp} → is_stamp t ≡ true → {room : ℕ} → overall 255 ≤ room
      → Readable full n t x (length (Lent n a.is memory (memory_long a))) room
  readable g l = record {
    reader = a.is;
    stamp = g;
    in_order = reader_in_order full (machine a.state store memory) n a.is x a.seat.reader
        (parts full (machine a.state store memory) a.fit);
    whole = lent_long n a.is memory (memory_long a);
    long = l;
  }

  module _ (s : State) (at : Seat n own x held s) (fit : unfit full (machine s store memory) ≡ 0) where
    abbrev g : Gateway
    g = meaning full (machine s store memory)

    -- the node's count, and the reader, as the machine means them
    count : (g.nodes n).count ≡ own.instance
    count =
        count_is full (machine s store memory) fit n (n - 1) (reader_node full n a.is) (reader_slot full full_sound n a.is) own
        at.node

    own_reader : g.reader n ≡ reader_of x (Lent n a.is memory (memory_long a))
    own_reader =
        reader_is full (machine s store memory) n a.is x at.reader ∙ ap (reader_of x) (sym (lent_is n a.is memory (memory_long a)))

    -- what was decided on the lent region
    by_region : (ws answer : List ℕ) (d : Decided) {l : Local M.Reader}
        → decided d ws (Lent n a.is memory (memory_long a)) answer ≡ l → decided d ws (region_of full memory n) answer ≡ l
    by_region ws answer d e = ap (λ (r : List ℕ). decided d ws r answer) (sym (lent_is n a.is memory (memory_long a))) ∙ e

    ordered_is : (t : Stamp) (k : Kind) (c : Command) → c.node ≡ n → (ws : List ℕ) {answer : List ℕ} {d : Decided}
        → Obeys full own.instance t k c ws x (Lent n a.is memory (memory_long a)) d answer
        → ordered full g t k c (load_of full c ws) ≡ seating full n d ws answer memory g
    unfolding ordered
    ordered_is t k c e ws {answer} {d} v =
        let bs : List ℕ = load_of full c ws in
        ap (λ (i : ℕ). settled full g (lifted (set_reader i) i g (obeyed i (g.nodes i) t k c bs (g.reader i)))) e
        ∙ rw (by_region ws answer d v.same, ← (obeyed_count n (g.nodes n) t c bs (g.reader n) k), count, own_reader, e)

    abbrev look : Stamp → ℕ → Local M.Reader
    look t clock = looked n (g.nodes n) t clock (g.reader n) (g.reader n).field (g.reader n).mode

    look_is : (t : Stamp) (clock : ℕ)
        → looked n (bare own.instance) t clock (reader_of x (Lent n a.is memory (memory_long a))) (field_of x.plaque)
        (mode_of x.reading x.report)
        ≡ look t clock
    unfolding reader_of
    look_is t clock =
        rw (← (looked_count n (g.nodes n) t clock (g.reader n) (g.reader n).field (g.reader n).mode), count, own_reader)

    looking_is : (t : Stamp) (clock : ℕ) {answer : List ℕ} {d : Decided}
        → Looks full own.instance n t clock x (Lent n a.is memory (memory_long a)) d answer
        → looking full g n t clock ≡ seating full n d [] answer memory g
    unfolding looking
    looking_is t clock {answer} {d} v = rw (← (look_is t clock), by_region [] answer d v.serves.same)

    quiet_is : (t : Stamp) (clock : ℕ) → quietly x clock ≡ true → look t clock ≡ Local.give quiet (g.reader n)
    quiet_is t clock q =
        sym (look_is t clock) ∙ look_quiet own.instance clock n t x (Lent n a.is memory (memory_long a)) q ∙ ap (Local.give quiet)
        (sym own_reader)

  pub suited : (ws : List ℕ) (c : Change) → Suits c ws (length (Lent n a.is memory (memory_long a))) → Suits c ws full.region
  suited ws c h = subst (Suits c ws) (lent_long n a.is memory (memory_long a)) h

  -- ---- as `obeyed` and `looked` promise it
  pub obeys : (t : Stamp) (k : Kind) (c : Command) → c.node ≡ n → (ws : List ℕ) {answer : List ℕ} {d : Decided}
      → Obeys full own.instance t k c ws x (Lent n a.is memory (memory_long a)) d answer
      → (r : Seated) {store' memory' : List ℕ} → Settles full n own x held d answer store r store'
      → memory' ≡ memory_after full n r.reply d.change ws memory
      → Seats full (λ g. ordered full g t k c (load_of full c ws)) n own x held store memory r store' memory'
  obeys t k c e ws {d = d} v r q z s at fit =
      rw (z, ordered_is s at fit t k c e ws v) (q ws memory (suited ws d.change v.suits) s at fit)

  pub looks : (t : Stamp) (clock : ℕ) {answer : List ℕ} {d : Decided}
      → Looks full own.instance n t clock x (Lent n a.is memory (memory_long a)) d answer
      → (r : Seated) {store' : List ℕ} → Settles full n own x held d answer store r store'
      → Seats full (λ g. looking full g n t clock) n own x held store memory r store' memory
  looks t clock {d = d} v r q s at fit =
      let kept : memory_after full n r.reply d.change [] memory ≡ memory =
      rw v.kept (kept_back n a.is memory (memory_long a) [] r.reply) in
      rw (looking_is s at fit t clock v) (rw kept at (q [] memory (suited [] d.change v.serves.suits) s at fit))

  pub looks_quiet : (t : Stamp) (clock : ℕ) → quietly x clock ≡ true
      → Seats full (λ g. looking full g n t clock) n own x held store memory
      (record { node = own; held = held; reader = x; reply = Reply.Quiet }) store memory
  unfolding said_of looking
  looks_quiet t clock v s at fit =
      let m : Machine = machine s store memory in
      rw (still n own x held s Reply.Quiet at)
      (giving full m (set_reader n) n (quiet_is s at fit t clock v) m (record { fit = fit; means = sym (same_reader (meaning full m) n) }))

-- ---- at the gateway's own node
module _ {nodes : List Node} {held : List Words} {name : Name} {store : List ℕ} (a : Houseable full nodes held name store) where
  pub governable : (t : Stamp) (k : Kind) (c : Command) (ws : List ℕ) → is_stamp t ≡ true → LimitedOf full k c ws → {room : ℕ}
      → overall 255 ≤ room → Governable full t k c ws name room
  governable t k c ws g o {room} l =
      let p = parts full (machine a.state store a.memory) a.fit in
      rw (← a.house.title) (record { stamp = g; told = o; in_order = p.name; wide = p.wide; long = l })

  pub houses : (t : Stamp) (k : Kind) (c : Command) (ws : List ℕ) {answer : List ℕ} {d : Ruled}
      → Governs full (get_or nodes full.readers blank).instance name t k c ws d answer
      → (r : Housed) {store' : List ℕ} → Houses full (housing full d answer) nodes held name store r store'
      → Houses full (λ g. heeding full g t k (load_of full c ws)) nodes held name store r store'
  unfolding heeding meaning
  houses t k c ws {answer} {d} v r {store'} q s memory at fit =
      let m : Machine = machine s store memory in
      let p = parts full m fit in
      let own : Node = get_or nodes full.readers blank in
      let count : ((meaning full m).nodes hub).count ≡ own.instance =
      count_is full m fit hub full.readers (node_hub full) refl own
      (get_d_any s.nodes full.readers fresh_node blank (omega (arith, p.each_node)) ∙ ap
      (λ (l : List Node). get_or l full.readers blank) at.all) in
      let e : governed ((meaning full m).nodes hub) (title_of s.name) t k (load_of full c ws) ≡ D.decided d answer =
      rw (← (governed_count ((meaning full m).nodes hub) (title_of s.name) t (load_of full c ws) k), count, at.title) (sym v.same) in
      rw e (q s memory at fit)
