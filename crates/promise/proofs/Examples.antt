-- The examples of specs/Examples hold; the checker computes them.
-- Assumes nothing.
use Rattle.units.proofs.Common.{rules, sym, ◌∙◌, ◌≡◌, refl, ap, subst, true, Bool, cond, ◌&&◌, List, [], ◌∷◌, ◌++◌, map, ℕ, ◌+◌, leb, lit<}
use Rattle.units.proofs.Common.{replicate, leb-true, yes_cond, and_true}
use Rattle.units.specs.Count as Count
use Rattle.units.specs.Stamp as Stamps
use Rattle.units.specs.declared.Form.{Form}
use Rattle.units.specs.declared.Form.TheVariants.{Framed}
use Rattle.meaning.proofs.Terms.{Bench, full, hub, is_node, word_no, Gateway, clearing, swept, sweep, set_reader, join, onward, fresh, held}
use Rattle.meaning.proofs.Terms.{share_of, charges, Call, arrive, collect, Said, queued, answered, done, handed, Try, tried, step}
use Rattle.meaning.specs.Refusal as Refusal
use Rattle.meaning.specs.Table as Table
use Rattle.meaning.specs.Command as Command
use Rattle.meaning.specs.Response as Response
use Rattle.meaning.specs.Packet as Packet
use Rattle.meaning.specs.Cases as Packets
use Rattle.meaning.specs.Bench.{node_count}
use Rattle.meaning.specs.CasesOfCalls as Cases
use Rattle.meaning.specs.CasesOfCalls.{cmd, id_a, clears}
use Rattle.meaning.specs.Gateway as M
use Rattle.meaning.specs.Room as Room
use Rattle.meaning.specs.Call as C
use Rattle.demands.specs.Sound.{full_sound}
use Rattle.demands.specs.Demand as D
use Rattle.demands.specs.Demand.{Line, log, kept, stays, struck, ours, Eased, Ease, Same, of_ours}
use Rattle.demands.proofs.Alone.{strike_out}
use Rattle.state.specs.State as States
use Rattle.state.specs.Reports as Reports
use Rattle.machine.proofs.Terms.{nothing, fresh_reader, emptied_node, Machine, machine, meaning, node_slot, nodes_in, region_of, unfit}
use Rattle.machine.specs.Layout as L
use Rattle.machine.specs.Machine as S
use Rattle.machine.specs.Consistent as Ok
use Rattle.state.specs.declared.State.{State}
use Rattle.store.specs.Changes.{with_lists, Sound, Listed, taken_at}
use Rattle.store.proofs.Promised as Lists
use Rattle.promise.specs.Obeyed as O
use Rattle.promise.specs.Obeyed.{is_refusal, expected, Obeyed}
use Rattle.promise.specs.Runs.{Chain, calls, lines, zero_store, reached}
use Rattle.promise.specs.Examples.{zero_memory, begun, visited, not_found, four_bytes, all_cleared, holding, relieved, silent, with_plaque}
use Rattle.promise.specs.Examples.{with_not_found, with_both, with_other, with_four, with_none, visit, visit_alone, crowding, going_on}
use Rattle.promise.specs.Examples.{going_on_said, crowd_start, crowd, Crowded}
use Rattle.promise.proofs.Parts.{parts, Means}
use Rattle.promise.proofs.Promises.{saying, obeying}
use Rattle.promise.proofs.Steps.{same_reader}
use Rattle.promise.proofs.Rooms.{added_changed}
use Rattle.promise.proofs.Dues.{Added}
use Rattle.store.proofs.Changed.{clear_empties}
use Rattle.promise.proofs.Nodes.{nodes_swept}
use Rattle.promise.proofs.Tables.{node_hub}
use Rattle.promise.proofs.Plaques.{arrived_0, left_14}
use Rattle.promise.proofs.Accepted.{◌then◌}
use Rattle.promise.proofs.Oldest.{collect_obeyed, acked_0}
use Rattle.promise.proofs.Chains.{fresh_fit, struck_chain}
use Rattle.promise.proofs.Demands.{struck_end}
use Rattle.promise.proofs.Possible.{chain_exists}

-- ---- an answer made on a machine that is written out
record Queues (m : Machine) (n : ℕ) (w : List ℕ) (c : Call) (m' : Machine) : Type 0 where
  fits : unfit full m ≡ 0
  node : is_node full n ≡ true
  steps : step full (meaning full m) c ≡ saying queued (join n w (set_reader n ((meaning full m).reader n) (meaning full m)))
  added : Added full m.store m'.store m.state m'.state (node_slot full n) w
  kept : m'.memory ≡ m.memory

queues : {m m' : Machine} {n : ℕ} {w : List ℕ} {c : Call} → Queues m n w c m' → Obeyed full c m queued m'
unfolding is_refusal
queues {m} {m'} {n} {w} {c} q =
    subst (λ (l : List ℕ). Obeyed full c m queued (machine m'.state m'.store l)) (sym q.kept)
    (obeying full m c q.fits queued _ _ refl
    (q.steps ∙ ap (λ (g : Gateway). saying queued (join n w g)) (same_reader (meaning full m) n))
    (added_changed full m n w q.node (parts full m q.fits) m'.store m'.state q.added))

-- the answer to 79, made after the lists are emptied
abbrev bare : Machine → State
bare m = with_lists m.state (map emptied_node m.state.nodes) (replicate (node_count full) nothing)

record Clears (m : Machine) (w : List ℕ) (c : Call) (m' : Machine) : Type 0 where
  fits : unfit full m ≡ 0
  steps : step full (meaning full m) c ≡ saying queued (join hub w (sweep clearing (meaning full m)))
  added : Added full zero_store m'.store (bare m) m'.state full.readers w
  kept : m'.memory ≡ m.memory

emptying : {m m' : Machine} {w : List ℕ} {c : Call} → Clears m w c m' → Obeyed full c m queued m'
unfolding is_refusal zero_store
emptying {m} {m'} {w} {c} q =
    let p = parts full m q.fits in
    let o : Sound full m.store m.state = record { size = p.store; lists = p.lists } in
    let l = Lists.empties full m.store m.state o (node_count full) (sym p.each_node) clear_empties in
    let z = Lists.wiped full m.store m.state o (node_count full) (sym p.each_node) ∙ ap (λ (k : ℕ). replicate k 0) p.store in
    let clean : Means full (machine (bare m) zero_store m.memory) (sweep clearing (meaning full m)) =
    nodes_swept full m p clearing clear_empties.blank zero_store (bare m) (rw z at l) in
    let m₁ : Machine = machine (bare m) zero_store m.memory in
    subst (λ (l : List ℕ). Obeyed full c m queued (machine m'.state m'.store l)) (sym q.kept)
    (obeying full m c q.fits queued _ _ refl (q.steps ∙ ap (λ (g : Gateway). saying queued (join hub w g)) (sym clean.means))
    (added_changed full m₁ hub w (node_hub full) (parts full m₁ clean.fit) m'.store m'.state q.added))

-- the oldest answer of node 2 gone
abbrev OldestGone : Machine → Machine → Type 0
OldestGone m m' = Listed full m.store m'.store m.state m'.state (taken_at (nodes_in m.store m.state.nodes) 1)

-- ---- a call of collect, which leaves the machine as it is
collects : (m : Machine) (f : Form) (n room : ℕ) (s : Said) → (expected full (collect f n room) m).said ≡ s
    → Obeyed full (collect f n room) m s m
collects m f n room s e = subst (λ (z : Said). Obeyed full (collect f n room) m z m) e (collect_obeyed full m f n room)

-- ---- the proviso, computed
at_ease_t : Bench → ℕ → Try → Bool
at_ease_t b i (Try.refuse k) = true
at_ease_t b i (Try.give r h) = true
at_ease_t b i (Try.due n h w) = cond (ours i n) (leb (held (h.nodes n) + word_no 1 w) (share_of b (h.nodes n))) true

at_ease : Bench → ℕ → Gateway → List Call → Bool
at_ease b i g [] = true
at_ease b i g (c ∷ cs) = at_ease_t b i (tried b g c) && at_ease b i (step b g c).next cs

eased_by : (b : Bench) (i : ℕ) (t : Try) → at_ease_t b i t ≡ true → Eased b i t
unfolding Eased at_ease_t
eased_by b i (Try.refuse k) e = tt
eased_by b i (Try.give r h) e = tt
eased_by b i (Try.due n h w) e = λ o. leb-true _ _ (sym (yes_cond true o) ∙ e)

ease_by : (b : Bench) (i : ℕ) (g : Gateway) (cs : List Call) → at_ease b i g cs ≡ true → Ease b i g cs
unfolding Ease at_ease
ease_by b i g [] e = tt
ease_by b i g (c ∷ cs) e =
    let p = and_true (at_ease_t b i (tried b g c)) _ e in (eased_by b i (tried b g c) p.0, ease_by b i (step b g c).next cs p.1)

-- ---- what the checker computes
record Computed : Type 0 where
  searched : Queues with_plaque 3 not_found (cmd (Packets.search 3)) with_not_found
  read : Queues with_not_found 2 four_bytes (cmd (Packets.reads 2 0 4)) with_both
  read_alone : Queues with_plaque 2 four_bytes (cmd (Packets.reads 2 0 4)) with_four
  both : unfit full with_both ≡ 0
  four : unfit full with_four ≡ 0
  acked : OldestGone with_both with_other
  acked_alone : OldestGone with_four with_none
  collected : (expected full (collect Framed 2 134) with_both).said ≡ answered (handed (0xFF02 ∷ four_bytes) 1)
  collected_alone : (expected full (collect Framed 2 134) with_four).said ≡ answered (handed (0xFF02 ∷ four_bytes) 1)
  cleared : Clears with_other all_cleared (cmd clears) (visited relieved relieved (holding 6) (all_cleared ++ replicate 4090 0))
  cleared_alone : Clears with_none all_cleared (cmd clears) (visited relieved silent (holding 6) (all_cleared ++ replicate 4090 0))
  visits : at_ease full 2 (fresh (region_of full zero_memory)) (calls visit) ≡ true
  struck_out : calls visit_alone ≡ struck full 2 (calls visit)
  crowds : at_ease full 1 crowd_start (crowding ++ going_on) ≡ true
  helds : map (λ n. held (crowd.nodes n)) (3 ∷ 4 ∷ 5 ∷ []) ≡ 804 ∷ 804 ∷ 612 ∷ []
  charged : charges full crowd ≡ 4096
  says : map (λ (l : Line). l.said) (log full 1 crowd going_on) ≡ going_on_said

computed : Computed
unfolding Count.every Stamps.last_day Stamps.is_stamp Refusal.refusal Packet.count_wrong Packet.length_wrong Packet.spare_wrong Table.table
    Table.lookup Table.row_of Table.suits Table.carries Table.carried Command.body_of Command.command_of Command.head_wrong
    Command.head_node_wrong Command.frame_doubts Command.who_doubts Command.outside Command.delay_wrong Command.range_wrong Command.limit_doubts
    Command.stray Command.unused_doubts Command.row_doubts Command.command_doubts Command.command_data Response.has_head Response.answer_of
    Response.response_of Response.mark_wrong Response.head_misplaced Response.nodes_differ Response.error_wrong Response.origin_doubts
    Response.content_doubts Response.response_doubts Response.well_formed Response.response_body Response.bears Response.shown M.put M.joined
    Room.added Room.share_of Room.charge Room.total Room.charges Room.fits C.asked C.judged C.collecting C.acknowledging C.same C.repeats
    C.ranged C.answer C.tag_not_found C.tagged C.obeyed C.looked C.left C.command_in C.kind_in C.bytes_in C.at_reader C.named C.serves C.whom
    C.lifted C.heeded C.tried C.roomed C.settled C.step Cases.id_a L.laid L.all_laid L.store_of L.cuts L.past S.nodes_in S.field_of
    Reports.report_of S.mode_of S.region_of S.reader_of S.seen S.nodes_of S.readers_of S.meaning Ok.in_layout Ok.formed Ok.charges_of Ok.bounded
    Ok.listed Ok.lists_ok Ok.node_ok Ok.plaque_ok Ok.reading_ok Ok.report_ok Ok.reader_ok
    Ok.name_ok Ok.arrays Ok.consistent Ok.lengths Ok.lent Ok.unfit M.onward M.emptied M.swept C.ruled C.governed C.at_hub C.from_desk
    States.emptied_node O.expected M.fresh M.taken C.arrived C.run D.kept D.spared D.stays D.struck D.line D.log at_ease_t at_ease visit
    visit_alone crowding going_on zero_store
computed = record {
  searched = search rules;
  read = search rules;
  read_alone = search rules;
  both = refl;
  four = refl;
  acked = record { lists = refl; nodes = refl; rest = refl; long = refl };
  acked_alone = record { lists = refl; nodes = refl; rest = refl; long = refl };
  collected = refl;
  collected_alone = refl;
  cleared = record { fits = refl; steps = refl; added = record { lists = refl; nodes = refl; rest = refl; long = refl }; kept = refl };
  cleared_alone = record { fits = refl; steps = refl; added = record { lists = refl; nodes = refl; rest = refl; long = refl }; kept = refl };
  visits = refl;
  struck_out = refl;
  crowds = refl;
  helds = refl;
  charged = refl;
  says = refl;
}

-- ---- the two chains, call after call
arrives : Obeyed full (arrive 2 id_a (0x11 ∷ 0x22 ∷ 0x33 ∷ 0x44 ∷ [])) begun (answered done) with_plaque
unfolding Cases.id_a
arrives =
    arrived_0 full begun 2 (fresh_fit zero_memory refl) id_a (0x11 ∷ 0x22 ∷ 0x33 ∷ 0x44 ∷ [])
    refl refl refl fresh_reader refl _ refl

pub visit_chain : Chain full begun visit
unfolding Chain visit onward
visit_chain =
    arrives
    then queues computed.searched
    then queues computed.read
    then left_14 full with_both 3 computed.both refl fresh_reader refl refl
    then collects with_both Framed 2 134 _ computed.collected
    then acked_0 full with_both computed.both 2 1 1 refl refl (holding 8).0 refl (lit< tt) refl _ _ computed.acked
    then emptying computed.cleared
    then tt

pub visit_alone_lem : Chain full begun visit_alone
unfolding Chain visit_alone onward
visit_alone_lem =
    arrives
    then queues computed.read_alone
    then collects with_four Framed 2 134 _ computed.collected_alone
    then acked_0 full with_four computed.four 2 1 1 refl refl (holding 8).0 refl (lit< tt) refl _ _ computed.acked_alone
    then emptying computed.cleared_alone
    then tt

-- ---- what the theorems say of them
pub visit_ease : Ease full 2 (fresh (region_of full zero_memory)) (calls visit)
visit_ease = ease_by full 2 (fresh (region_of full zero_memory)) (calls visit) computed.visits

-- strike_out of the code: reader 3's calls struck out, the lines of reader 2 are the same, and so is its part at the end
pub visit_struck : kept (λ l. stays full 2 l.call) (lines full 2 visit) ≡ lines full 2 visit_alone
visit_struck = struck_chain 2 zero_memory refl visit visit_alone visit_chain visit_alone_lem computed.struck_out visit_ease

pub visit_end : Same 2 (reached zero_memory visit) (reached zero_memory visit_alone)
visit_end = struck_end 2 zero_memory refl visit visit_alone visit_chain visit_alone_lem computed.struck_out visit_ease

-- the crowd: nodes 3 and 4 hold 804 words, node 5 holds 612, and the store is charged in full; then 3 and 5 are refused room, and reader 1
-- is not ..
pub crowd_full : (map (λ n. held (crowd.nodes n)) (3 ∷ 4 ∷ 5 ∷ []) ≡ 804 ∷ 804 ∷ 612 ∷ []) × (charges full crowd ≡ 4096)
crowd_full = (computed.helds, computed.charged)

pub crowd_says : map (λ (l : Line). l.said) (log full 1 crowd going_on) ≡ going_on_said
crowd_says = computed.says

-- .. as it is at ease all along, so that it never notices the others
pub crowd_ease : Ease full 1 crowd_start (crowding ++ going_on)
crowd_ease = ease_by full 1 crowd_start (crowding ++ going_on) computed.crowds

pub crowd_struck : kept (of_ours full 1) (log full 1 crowd_start (crowding ++ going_on))
    ≡ log full 1 crowd_start (struck full 1 (crowding ++ going_on))
crowd_struck = strike_out full full_sound 1 (region_of full zero_memory) (crowding ++ going_on) crowd_ease

-- .. and the code has such chains, in which it never notices them either
pub crowd_code : Crowded
crowd_code =
    let (hs, e, c) = chain_exists (crowding ++ going_on) begun in
    let (js, f, d) = chain_exists (struck full 1 (crowding ++ going_on)) begun in
    let q : calls js ≡ struck full 1 (calls hs) = f ∙ ap (struck full 1) (sym e) in
    let z : Ease full 1 crowd_start (calls hs) = subst (Ease full 1 crowd_start) (sym e) crowd_ease in
    record {
      among = hs;
      alone = js;
      calls_among = e;
      calls_alone = f;
      chain_among = c;
      chain_alone = d;
      same_lines = struck_chain 1 zero_memory refl hs js c d q z;
      same_end = struck_end 1 zero_memory refl hs js c d q z;
    }
