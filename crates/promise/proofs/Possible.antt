-- Every call can be obeyed on every machine, so every list of calls is that of a chain: the theorems about chains speak of all calls.
-- Assumes nothing.
use Rattle.units.proofs.Common.{sym, ◌∙◌, ◌≡◌, refl, ap, true, false, Bool, cond, List, [], ◌∷◌, ◌++◌, ℕ, ◌≤◌, ◌-◌, ◌+◌, ◌<◌, suc, ◌*◌}
use Rattle.units.proofs.Common.{zero, ℕ_discrete, arith, eqb, leb, lit≤, lit<, length, drop, get_or, take, length-drop, replicate}
use Rattle.units.proofs.Common.{length-append, length-replicate, length-take, paste, slice, take_at, drop_at, eq-eqb, le-leb, eqb-true}
use Rattle.units.proofs.Common.{leb-true, every, is_stamp, and_true, yes_cond, not-false}
use Rattle.units.specs.declared.Form.{Form}
use Rattle.units.specs.declared.stamp.Stamp.{Stamp}
use Rattle.meaning.proofs.Terms.{refusal, full, hub, is_reader, is_node, ◌to◌, carries, carried, command_doubts, command_result, read_command}
use Rattle.meaning.proofs.Terms.{well_formed, shown, Gateway, clearing, resetting, swept, taken, Field, empty, plaque, never, on, set_node}
use Rattle.meaning.proofs.Terms.{set_reader, set_field, set_mode, join, fits, Call, command, check, arrive, leave, collect, asked, acknowledge}
use Rattle.meaning.proofs.Terms.{Said, refused, answered, queued, done, Outcome, Local, Try, idle, answer, obeyed, tagged, whom, ranged}
use Rattle.meaning.proofs.Terms.{looked, left, repeats, ruled, governed, collecting, acknowledging, at_reader, at_hub, Whom, heeded}
use Rattle.meaning.proofs.Terms.{command_in, kind_in, bytes_in, named, judged, from_desk, lifted, settled}
use Rattle.meaning.specs.Gateway as M
use Rattle.meaning.specs.Gateway.{set_region}
use Rattle.meaning.specs.Call.{started}
use Rattle.meaning.specs.declared.table.OnPlaque.{OnPlaque}
use Rattle.meaning.specs.declared.table.OnPlaque.TheVariants.{Fill, Read, Write, ReadId, Search}
use Rattle.meaning.specs.declared.table.OfGateway.{OfGateway}
use Rattle.meaning.specs.declared.table.OfGateway.TheVariants.{GetName, SetName, Initialise, ResetGateway, Clear}
use Rattle.meaning.specs.declared.table.Kind.{Kind}
use Rattle.meaning.specs.declared.table.Kind.TheVariants as K
use Rattle.meaning.specs.declared.table.Row.{Row}
use Rattle.meaning.specs.declared.packet.Command.{Command}
use Rattle.meaning.specs.declared.packet.CommandRead.TheVariants as R
use Rattle.meaning.proofs.Chain.{accepts, fine}
use Rattle.meaning.proofs.CommandLaws.{read_is, data_length_lem}
use Rattle.demands.specs.Sound.{full_sound}
use Rattle.demands.proofs.Local.{cond_all}
use Rattle.demands.proofs.Aim.{Aim, aim}
use Rattle.demands.proofs.Numbers.{never_nobody}
use Rattle.machine.proofs.Terms.{fresh_reader, fresh_node, no_plaque, no_report, Machine, meaning, node_slot, reader_of, field_of, mode_of}
use Rattle.machine.proofs.Terms.{report_of}
use Rattle.machine.proofs.Terms.{region_of, node_at, counts, reader_ok, name_ok, unfit}
use Rattle.state.specs.State.{off}
use Rattle.state.specs.declared.reader.Reading.{Reading}
use Rattle.state.specs.declared.reader.Reader.{Reader}
use Rattle.state.specs.declared.node.Node.{Node}
use Rattle.state.specs.declared.Name.{Name}
use Rattle.lists.specs.Room.{room_for}
use Rattle.state.proofs.Lists.{both}
use Rattle.store.specs.Changes.{Sound}
use Rattle.store.proofs.Promised as Lists
use Rattle.promise.specs.Obeyed.{is_refusal, Does, Obeyed}
use Rattle.promise.specs.Runs.{Exchange, Chain, calls}
use Rattle.promise.proofs.Parts.{parts, Means}
use Rattle.promise.proofs.Tables.{node_inside, node_hub, reader_node, reader_slot}
use Rattle.promise.proofs.Regions.{untouched, region_paste, pasted}
use Rattle.promise.proofs.Readers.{reader_is, field_is, mode_is, reader_in_order, reader_changed, reader_parts, id_long, left_ok}
use Rattle.promise.proofs.Readers.{plaque_bytes, reading_range, with_plaque, with_reading, stopped_ok, started_ok, reported_ok}
use Rattle.promise.proofs.Readers.{reported_means}
use Rattle.promise.proofs.Nodes.{name_changed, nodes_swept}
use Rattle.promise.proofs.Promises.{unlent, does_refused, does_said, by_step}
use Rattle.promise.proofs.Steps.{heeded_by, refused_by, same_reader, same_desk}
use Rattle.promise.proofs.Formed.{reader_index, hub_index, answer_formed, not_found_formed}
use Rattle.promise.proofs.Dues.{due_13, due_queued, room_due, joins}
use Rattle.promise.proofs.Plaques.{arrived_changed}
use Rattle.promise.proofs.Oldest.{pending_long, takes, taken_changed}
use Rattle.store.proofs.Changed.{clear_empties, reset_empties}
use Rattle.promise.proofs.Accepted.{row_for, row_regular, Accepted, accepted, used, reads}

-- some machine that means a gateway
record Some (g : Gateway) : Type 0 where
  there : Machine
  is : Means full there g

-- an answer with room can join
joined_some : (m : Machine) (h : Gateway) → Means full m h → (n : ℕ) → is_node full n ≡ true → (w : List ℕ)
    → well_formed full (node_at full (node_slot full n)) w ≡ true → fits full n (join n w h) ≡ true → Some (join n w h)
joined_some m h e n is w formed f =
    let p = parts full m e.fit in
    let ns : List Node = m.state.nodes in
    let i : ℕ = node_slot full n in
    let r : room_for full (counts m.state.held) i (length w) ≡ true =
    sym (room_due full full_sound n i is refl w formed m h e.fit (ap (λ (g : Gateway). g.nodes) e.means)) ∙ f in
    let at : i < length ns = node_inside full n (length ns) is p.each_node in
    let ok : Sound full m.store m.state = record { size = p.store; lists = p.lists } in
    let a = Lists.join full m.store m.state ok i at w (record { sound = ok; index = at; answer = formed; room = r }) _
    (sym p.each_node) in
    record { there = _; is = joins full full_sound n i is refl w formed m h e _ _ a.after }

-- bytes of a part of a list
part_short : (f t : ℕ) (l : List ℕ) → length (slice f t l) ≤ t - f
part_short f t l = omega (arith, length-drop f (take t l), length-take t l)

zeros_row : (k : ℕ) → every (λ x. eqb x 0) (replicate k 0) ≡ true
unfolding every
zeros_row zero = refl
zeros_row (suc k) = zeros_row k

-- ---- on a consistent machine
module _ (m : Machine) (ok : unfit full m ≡ 0) where
  abbrev g : Gateway
  g = meaning full m

  lists_ok_lem : Sound full m.store m.state
  lists_ok_lem = let p = parts full m ok in record { size = p.store; lists = p.lists }

  -- what can be said and left for an outcome
  record Can (o : Outcome) : Type 0 where
    said : Said
    after : Machine
    does : Does full o m said after

  can_due : (n : ℕ) (h : Gateway) (w : List ℕ) → is_node full n ≡ true → well_formed full (node_at full (node_slot full n)) w ≡ true → Some h
      → Can (settled full g (Try.due n h w))
  can_due n h w is formed s = by_room (fits full n (join n w h)) refl
    where
      by_room : (t : Bool) → fits full n (join n w h) ≡ t → Can (settled full g (Try.due n h w))
      by_room true e =
          let q = joined_some s.there h s.is n is w formed e in
          record { said = queued; after = q.there; does = due_queued full m n h w e q.there q.is }
      by_room false e = record { said = refused 13; after = m; does = due_13 full m n h w e m refl }

  -- what a local outcome at node n needs: a machine with what is changed, and an answer that is well formed
  Good : {A : Type 0} → (A → Gateway → Gateway) → ℕ → Local A → Type 0
  Good into n (Local.refuse k) = Unit
  Good into n (Local.give r a) = Some (into a g)
  Good into n Local.acked = Some (set_node n (taken (g.nodes n)) g)
  Good into n (Local.due a w) = (well_formed full (node_at full (node_slot full n)) w ≡ true) × Some (into a g)

  module _ {A : Type 0} (into : A → Gateway → Gateway) (n : ℕ) where
    can_local : is_node full n ≡ true → (l : Local A) → Good into n l → Can (settled full g (lifted into n g l))
    unfolding Good lifted settled is_refusal
    can_local is (Local.refuse k) h = record { said = refused k; after = m; does = does_refused full m k }
    can_local is (Local.give r a) h = record { said = answered r; after = h.there; does = does_said full m _ _ _ refl h.is }
    can_local is Local.acked h = record { said = answered done; after = h.there; does = does_said full m _ _ _ refl h.is }
    can_local is (Local.due a w) h = can_due n (into a g) w is h.0 h.1

    -- ---- a call about the node's list
    good_collecting : (a : A) → Some (into a g) → (f : Form) (k room h : ℕ) (ws : List (List ℕ)) → Good into n (collecting a f k room h ws)
    unfolding collecting Good
    good_collecting a s f k room h [] = tt
    good_collecting a s f k room h (w ∷ ws) = cond_all (Good into n) (leb (length (shown f k w)) room) _ _ s tt

    good_acknowledging : is_node full n ≡ true → (h : ℕ) → Good into n (acknowledging (g.nodes n).handover h (g.nodes n).pending)
    unfolding acknowledging Good
    good_acknowledging is h = by_pending (g.nodes n).pending refl
      where
        y : Node
        y = get_or m.state.nodes (node_slot full n) fresh_node

        by_pending : (ws : List (List ℕ)) → (g.nodes n).pending ≡ ws → Good into n (acknowledging (g.nodes n).handover h ws)
        by_pending [] e = tt
        by_pending (w ∷ ws) e =
            let some : 0 < y.answers = omega (arith, pending_long full m ok n (node_slot full n) is refl y refl, ap length e) in
            let a = (takes full m ok n (node_slot full n) is refl y refl some).after in
            cond_all (Good into n) (eqb h (g.nodes n).handover) _ _
            (record { there = _; is = taken_changed full m ok n (node_slot full n) is refl y refl some _ _ a }) tt

  -- ---- at reader n
  module _ (n : ℕ) (is : is_reader full n ≡ true) where
    abbrev x : Reader
    x = get_or m.state.readers (n - 1) fresh_reader

    abbrev r : M.Reader
    r = g.reader n

    same : r ≡ reader_of x (region_of full m.memory n)
    same = reader_is full m n is x refl

    orderly : reader_ok full x ≡ true
    orderly = reader_in_order full m n is x refl (parts full m ok)

    abbrev Well : Local M.Reader → Type 0
    Well l = Good (set_reader n) n l

    -- the reader as it is, and changed
    unchanged : Some (set_reader n r g)
    unchanged = record { there = m; is = record { fit = ok; means = sym (same_reader g n) } }

    changed : (y : Reader) → reader_ok full y ≡ true → (a : M.Reader) → reader_of y (region_of full m.memory n) ≡ a → Some (set_reader n a g)
    changed y o a e = record { there = _; is = reader_changed full m n is y m.memory (untouched full n m.memory) ok o a e }

    written : (start : ℕ) (bytes : List ℕ) (k : ℕ) → start + k ≤ full.region → k ≤ length bytes
        → Some (set_reader n (set_region (paste r.region start bytes k) r) g)
    unfolding reader_of
    written start bytes k h has =
        let p = parts full m ok in
        let memory' : List ℕ = paste m.memory ((n - 1) * full.region + start) bytes k in
        let own : reader_of x (region_of full memory' n) ≡ set_region (paste r.region start bytes k) r =
        ap (reader_of x) (region_paste full n m.memory is p.memory start bytes k h has)
        ∙ ap (λ (y : M.Reader). set_region (paste y.region start bytes k) y) (sym same) in
        let inside = pasted full n m.memory is p.memory start bytes k h has in
        record { there = _; is = reader_changed full m n is x memory' inside ok orderly _ own }

    stopped : Some (set_reader n (set_mode M.off r) g)
    unfolding reader_of mode_of
    stopped = changed (with_reading x off no_report) (stopped_ok full x orderly) _ (ap (set_mode M.off) (sym same))

    -- a plaque that is there is one
    Sized : Field → Type 0
    Sized empty = Unit
    Sized (plaque id len) = (length id ≡ 8) × (len ≤ full.region)

    sized : Sized r.field
    unfolding field_of Sized
    sized = rw (field_is full m n is x refl) (by_presence x.plaque.present refl)
      where
        by_presence : (u : Bool) → x.plaque.present ≡ u → Sized (cond u (plaque x.plaque.id x.plaque.length.0) empty)
        by_presence true e = let p = (reader_parts full x orderly).plaque in
            (id_long full x.plaque p, (plaque_bytes full x.plaque p e).1)
        by_presence false e = tt

    good_left : (f : Field) → Well (left r f)
    unfolding left reader_of field_of Good
    good_left empty = tt
    good_left (plaque id len) =
        changed (with_plaque x no_plaque) (left_ok full x orderly) _ (ap (set_field empty) (sym same))

    -- answers are well formed
    module _ (t : Stamp) (good : is_stamp t ≡ true) where
      abbrev v : M.Node
      v = g.nodes n

      at : node_at full (node_slot full n) ≡ n
      at = ap (node_at full) (reader_slot full full_sound n is) ∙ reader_index full n is

      formed : (echo : ℕ) (s : List ℕ) → echo < 256 → length s ≤ 255
          → well_formed full (node_at full (node_slot full n)) (answer n v t echo s) ≡ true
      formed echo s h l = answer_formed full full_sound n (node_slot full n) at v t (reader_node full n is) good _ echo s refl h l

      -- ---- 04 to 08
      module _ (c : Command) (bs : List ℕ) where
        good_ranged : (len : ℕ) (l : Local M.Reader) → (c.start + c.size ≤ len → Well l) → Well (ranged c len l)
        unfolding ranged Good
        good_ranged len l h = by_end (leb (c.start + c.size) len) refl
          where
            by_end : (u : Bool) → leb (c.start + c.size) len ≡ u → Well (cond u l (Local.refuse 12))
            by_end true e = h (leb-true _ _ e)
            by_end false e = tt

        good_tagged : (k : OnPlaque) → Accepted full (K.Plaque k) c → length bs ≡ carries (row_for full (K.Plaque k)).load c.size
            → (f : Field) → Sized f → Well (tagged n v t k c bs r f)
        unfolding tagged carries Good Sized
        good_tagged k a l empty h =
            (not_found_formed full full_sound n (node_slot full n) at v t (reader_node full n is) good _ refl, unchanged)
        good_tagged Fill a l (plaque id len) h =
            let long = length-replicate c.size (get_or bs 0 0) in
            good_ranged len _ (λ d. (formed 0x04 [] (lit< tt) (lit≤ tt), written c.start _ c.size (omega arith) (omega arith)))
        good_tagged Read a l (plaque id len) h =
            let short = part_short c.start (c.start + c.size) r.region in
            let few = used (1 to 255) c.size refl a.size in
            good_ranged len _ (λ d. (formed 0x05 _ (lit< tt) (omega arith), unchanged))
        good_tagged Write a l (plaque id len) h =
            good_ranged len _ (λ d. (formed 0x06 [] (lit< tt) (lit≤ tt), written c.start bs c.size (omega arith) (omega arith)))
        good_tagged ReadId a l (plaque id len) h = (formed 0x07 id (lit< tt) (omega arith), unchanged)
        good_tagged Search a l (plaque id len) h = (formed 0x08 [] (lit< tt) (lit≤ tt), unchanged)

        -- ---- 0D
        good_started : Accepted full K.Continuous c → Some (set_reader n (set_mode (started c) r) g)
        unfolding started reader_of mode_of report_of
        good_started a = by_size (eqb c.size 0) refl
          where
            by_size : (u : Bool) → eqb c.size 0 ≡ u
                → Some (set_reader n (set_mode (cond u M.off (on c.start c.size c.word4 never)) r) g)
            by_size true e = stopped
            by_size false e =
                let d = reads full c a in
                let y : Reading = record { start = c.start; size = record { 0 = c.size }; delay = c.word4 } in
                changed (with_reading x y no_report) (started_ok full x orderly y e d.size d.range d.delay) _
                (rw (same, e))

        good_obeyed : (k : Kind) → Accepted full k c → length bs ≡ carries (row_for full k).load c.size → Well (obeyed n v t k c bs r)
        unfolding obeyed Good
        good_obeyed (K.Plaque k) a l = good_tagged k a l r.field sized
        good_obeyed K.Continuous a l = (formed 0x0D [] (lit< tt) (lit≤ tt), good_started a)
        good_obeyed K.ResetReader a l = (formed 0x54 [] (lit< tt) (lit≤ tt), stopped)
        good_obeyed (K.Gateway k) a l = tt
        good_obeyed K.Unknown a l = tt

      -- ---- a field check
      good_looked : (clock : ℕ) → Well (looked n v t clock r r.field r.mode)
      unfolding looked field_of mode_of Good
      good_looked clock =
          rw (field_is full m n is x refl, mode_is full m n is x refl) (by_mode x.plaque.present (eqb x.reading.size.0 0) refl)
        where
          by_mode : (s o : Bool) → eqb x.reading.size.0 0 ≡ o
              → Well (looked n v t clock r (cond s (plaque x.plaque.id x.plaque.length.0) empty)
              (cond o M.off (on x.reading.start x.reading.size.0 x.reading.delay (report_of x.report))))
          by_mode false o f = unchanged
          by_mode true true f = unchanged
          by_mode true false f =
              let q = reading_range full x.reading x.report.kept (reader_parts full x orderly).reading f in
              let short = part_short x.reading.start (x.reading.start + x.reading.size.0) r.region in
              cond_all Well (repeats x.plaque.id clock x.reading.delay (report_of x.report)) _ _ unchanged
              (cond_all Well (leb (x.reading.start + x.reading.size.0) x.plaque.length.0) _ _ (
                formed 0x0D _ (lit< tt) (omega arith),
                changed _ (reported_ok full x orderly clock f) _
                    (reported_means x (region_of full m.memory n) clock f ∙ ap (set_mode _) (sym same)),
              )
              tt)

  -- ---- at the gateway's own node
  still : Some (from_desk (idle g.name) g)
  still = record { there = m; is = record { fit = ok; means = sym (same_desk g) } }

  module _ (t : Stamp) (good : is_stamp t ≡ true) where
    formed_hub : (y : M.Node) (echo : ℕ) (s : List ℕ) → echo < 256 → length s ≤ 255
        → well_formed full (node_at full (node_slot full hub)) (answer hub y t echo s) ≡ true
    formed_hub y echo s h l = answer_formed full full_sound hub full.readers (hub_index full) y t (node_hub full) good _ echo s refl h l

    titled : (s : List ℕ) → length s ≤ 64 → Some (from_desk (idle s) g)
    unfolding from_desk swept name_ok
    titled s h =
        let name : Name = record { length = record { 0 = length s }; bytes = s ++ replicate (64 - length s) 0 } in
        let long : length name.bytes ≡ 64 =
        omega (arith, length-append s (replicate (64 - length s) 0), length-replicate {A = ℕ} (64 - length s) 0) in
        let zero : every (λ x. eqb x 0) (drop (length s) name.bytes) ≡ true =
        ap (every (λ x. eqb x 0)) (drop_at s (replicate (64 - length s) 0) (length s) refl) ∙ zeros_row (64 - length s) in
        record {
          there = _;
          is = name_changed full m name ok (both (le-leb (length s) 64 h) zero) long s
              (take_at s (replicate (64 - length s) 0) (length s) refl);
        }

    name_short : length g.name ≤ 255
    unfolding meaning name_ok
    name_short =
        let p = parts full m ok in
        let l = leb-true m.state.name.length.0 64 (and_true (leb m.state.name.length.0 64) _ p.name).0 in
        omega (arith, length-take m.state.name.length.0 m.state.name.bytes)

    good_ruled : (k : OfGateway) (bs : List ℕ) → length bs ≤ 64 → Good from_desk hub (ruled (g.nodes hub) g.name t k bs)
    unfolding ruled from_desk Good
    good_ruled GetName bs h = (formed_hub (g.nodes hub) 0x11 g.name (lit< tt) name_short, still)
    good_ruled SetName bs h = (formed_hub (g.nodes hub) 0x21 [] (lit< tt) (lit≤ tt), titled bs h)
    good_ruled Initialise bs h = (formed_hub (g.nodes hub) 0x60 [] (lit< tt) (lit≤ tt), titled [] (lit≤ tt))
    good_ruled ResetGateway bs h =
        let a = Lists.empties full m.store m.state lists_ok_lem _ (sym (parts full m ok).each_node) reset_empties in
        let e = nodes_swept full m (parts full m ok) resetting reset_empties.blank _ _ a in
        (formed_hub (swept resetting (g.nodes hub)) 0x61 [] (lit< tt) (lit≤ tt), record { there = _; is = e })
    good_ruled Clear bs h =
        let a = Lists.empties full m.store m.state lists_ok_lem _ (sym (parts full m ok).each_node) clear_empties in
        let e = nodes_swept full m (parts full m ok) clearing clear_empties.blank _ _ a in
        (formed_hub (swept clearing (g.nodes hub)) 0x79 [] (lit< tt) (lit≤ tt), record { there = _; is = e })

  -- ---- the calls
  module _ (t : Stamp) (f : Form) (ws : List ℕ) (e : judged full (command t f ws) ≡ 0) where
    abbrev c : Command
    c = command_in f ws

    abbrev bs : List ℕ
    bs = bytes_in full f ws

    stamped : is_stamp t ≡ true
    unfolding judged asked
    stamped = not-false _ (fine 3 _ refl (accepts _ _ e).0)

    read : read_command full f ws ≡ R.Accepted c
    unfolding judged asked read_command command_result command_in
    read = yes_cond _ (eq-eqb (refusal (command_doubts full f ws)) 0 (accepts _ _ e).1)

    known : Accepted full (kind_in full f ws) c
    unfolding kind_in
    known = accepted full c (read_is full f ws c read).1.kept _ refl

    loaded : length bs ≡ carries (row_for full (kind_in full f ws)).load c.size
    unfolding kind_in bytes_in carried
    loaded =
        data_length_lem full f ws c read
        ∙ ap (λ (r : Row). carries r.load c.size) (row_regular full c.command c.node known.suits)

    -- the bytes that a command of the gateway carries
    few : (k : OfGateway) → Accepted full (K.Gateway k) c → length bs ≡ carries (row_for full (K.Gateway k)).load c.size → length bs ≤ 64
    unfolding carries
    few GetName a l = omega arith
    few SetName a l = omega (arith, used (1 to 64) c.size refl a.size)
    few Initialise a l = omega arith
    few ResetGateway a l = omega arith
    few Clear a l = omega arith

    good_governed : (k : Kind) → Accepted full k c → length bs ≡ carries (row_for full k).load c.size
        → Good from_desk hub (governed (g.nodes hub) g.name t k bs)
    unfolding governed Good
    good_governed (K.Gateway k) a l = good_ruled t stamped k bs (few k a l)
    good_governed (K.Plaque k) a l = tt
    good_governed K.Continuous a l = tt
    good_governed K.ResetReader a l = tt
    good_governed K.Unknown a l = tt

  good_at_reader : (c : Call) → judged full c ≡ 0 → is_reader full (named c) ≡ true
      → Good (set_reader (named c)) (named c) (at_reader full (named c) (g.nodes (named c)) (g.reader (named c)) c)
  unfolding at_reader judged asked named Good
  good_at_reader (command t f ws) e is =
      good_obeyed _ is t (stamped t f ws e) (command_in f ws) (bytes_in full f ws) (kind_in full f ws) (known t f ws e) (loaded t f ws e)
  good_at_reader (check n t clock) e is = good_looked n is t (not-false _ (fine 3 _ refl (accepts _ _ e).0)) clock
  good_at_reader (arrive n id s) e is =
      let q = accepts _ _ (accepts _ _ e).1 in
      let long = eqb-true (length id) 8 (not-false _ (fine 9 _ refl q.0)) in
      record { there = _; is = arrived_changed full m n ok id s is long (not-false _ (fine 10 _ refl q.1)) _ refl _ refl }
  good_at_reader (leave n) e is = good_left n is (g.reader n).field
  good_at_reader (collect f n room) e is = good_collecting (set_reader n) n (g.reader n) (unchanged n is) f n room _ _
  good_at_reader (acknowledge n h) e is = good_acknowledging (set_reader n) n (reader_node full n is) h

  good_at_hub : (c : Call) → judged full c ≡ 0 → Good from_desk hub (at_hub full (g.nodes hub) g.name c)
  unfolding at_hub Good
  good_at_hub (command t f ws) e = good_governed t f ws e (kind_in full f ws) (known t f ws e) (loaded t f ws e)
  good_at_hub (check n t clock) e = tt
  good_at_hub (arrive n id s) e = tt
  good_at_hub (leave n) e = tt
  good_at_hub (collect f n room) e = good_collecting from_desk hub (idle g.name) still f hub room _ _
  good_at_hub (acknowledge n h) e = good_acknowledging from_desk hub (node_hub full) h

  can_heeded : (c : Call) → judged full c ≡ 0 → {v : Whom} → Aim full c v → Can (settled full g (heeded full g c v))
  unfolding heeded
  can_heeded c e (Aim.reader p) = can_local (set_reader (named c)) (named c) (reader_node full (named c) p) _ (good_at_reader c e p)
  can_heeded c e (Aim.desk p q) = can_local from_desk hub (node_hub full) _ (good_at_hub c e)
  can_heeded c e (Aim.nowhere p q) = absurd (never_nobody full c e p q)

  can : (c : Call) → (s : Said) × (m' : Machine) × Obeyed full c m s m'
  can c = elim (ℕ_discrete (judged full c) 0) [
    | yes e ↦
        let d = can_heeded c e (aim full c) in
        (d.said, d.after, by_step full m c ok (heeded_by full g c (whom full c) e refl) d.does)
    | no d ↦ (refused (judged full c), m, refused_by full m c ok _ refl d)
  ]

-- ---- on any machine, any call has an outcome as promised ..
pub possible : (c : Call) (m : Machine) → (s : Said) × (m' : Machine) × Obeyed full c m s m'
possible c m = elim (ℕ_discrete (unfit full m) 0) [
  | yes e ↦ can m e c
  | no d ↦ (refused (unfit full m), m, unlent full m c (unfit full m) refl d)
]

-- .. so any calls, one after the other, are those of a chain
pub chain_exists : (cs : List Call) (m : Machine) → (hs : List Exchange) × (calls hs ≡ cs) × Chain full m hs
unfolding Chain
chain_exists [] m = ([], refl, tt)
chain_exists (c ∷ cs) m =
    let (s, m', o) = possible c m in
    let (hs, e, k) = chain_exists cs m' in
    (record { call = c; said = s; after = m' } ∷ hs, ap (λ (l : List Call). c ∷ l) e, (o, k))
