-- No node, no answer, or no room: refused; else the oldest answer, under a head word where the form bears one (laws of `Served`).
use Rattle.units.proofs.Common.{sym, ◌∙◌, ◌≡◌, ap, true, false, cond, List, ◌∷◌, ℕ, ◌<◌, arith, length, get_or, set, length-set, word}
use Rattle.meaning.specs.Bench.{node_count}
use Rattle.meaning.proofs.Terms.{full, is_node, bears}
use Rattle.machine.proofs.Terms.{Machine, machine, node_slot, counts, unfit}
use Rattle.machine.proofs.Read.{blank}
use Rattle.state.specs.declared.State.{State}
use Rattle.lists.specs.Room.{place_of}
use lib.Seq.{sets}
use Rattle.promise.proofs.Parts.{parts}
use Rattle.promise.proofs.Oldest.{oldest, collected_7, collected_14, collected_16, collected_0, shown_headed, shown_bare}
use Rattle.handover.proofs.Served.{slot_out, Found, found, Stands, stands}
use Rattle.collect.proofs.collect.Goals as goal

-- what stands at the node's slot i; and, where it has an answer, its oldest, which stands at the place that the code finds
module _ (s : State) (store memory : List ℕ) (fit : unfit full (machine s store memory) ≡ 0) (node i : ℕ)
    (e : i ≡ cond (is_node full node) (node_slot full node) (node_count full)) (inside : i < node_count full) where
  abbrev m : Machine
  m = machine s store memory

  here : Found m node i
  here = found m fit node i e inside

  abbrev first : 0 < (get_or s.nodes i blank).answers → List ℕ
  first some = oldest full m fit node i here.is here.slot (get_or s.nodes i blank) here.at some

  lies : (some : 0 < (get_or s.nodes i blank).answers) (place : ℕ) → place ≡ place_of (counts s.held) i → Stands m place (first some)
  lies some place p = stands m fit node i here some place p

pub returns-then-i-ge-NODES : goal.returns-then-i-ge-NODES
returns-then-i-ge-NODES c =
    collected_7 full (machine c.args.s c.args.store.now c.args.plaques.now) c.args.form c.args.node (length c.args.out.now) c.requires
    c.args.out.now (slot_out c.args.node c.node_slot-i.result c.node_slot-i.ensures c.if-i-ge-NODES.true)

pub returns-then-n-eq0 : goal.returns-then-n-eq0
returns-then-n-eq0 c =
    let a = c.args in
    let i = c.node_slot-i.result in
    let f = here a.s a.store.now a.plaques.now c.requires a.node i c.node_slot-i.ensures c.if-i-ge-NODES.false in
    collected_14 full (machine a.s a.store.now a.plaques.now) a.form a.node (length a.out.now) c.requires i f.is f.slot
    (get_or a.s.nodes i blank) f.at a.out.now c.if-n-eq0.true

pub offset_bounds-store-place : goal.offset_bounds-store-place
offset_bounds-store-place c =
    let a = c.args in
    let h = lies a.s a.store.now a.plaques.now c.requires a.node c.node_slot-i.result c.node_slot-i.ensures c.if-i-ge-NODES.false
    (omega arith) c.place_of-place.result c.place_of-place.ensures in
    record { fits = omega (arith, h.inside, (parts full (machine a.s a.store.now a.plaques.now) c.requires).store) }

pub bounds-store-place : goal.bounds-store-place
bounds-store-place c =
    let a = c.args in
    let h = lies a.s a.store.now a.plaques.now c.requires a.node c.node_slot-i.result c.node_slot-i.ensures c.if-i-ge-NODES.false
    (omega arith) c.place_of-place.result c.place_of-place.ensures in
    omega (arith, h.inside, h.least)

pub overflow_cast-words : goal.overflow_cast-words
overflow_cast-words c =
    let a = c.args in
    let h = lies a.s a.store.now a.plaques.now c.requires a.node c.node_slot-i.result c.node_slot-i.ensures c.if-i-ge-NODES.false
    (omega arith) c.place_of-place.result c.place_of-place.ensures in
    record { fits = omega (arith, h.most, h.says) }

pub overflow_add-words : goal.overflow_add-words
overflow_add-words c =
    let a = c.args in
    let h = lies a.s a.store.now a.plaques.now c.requires a.node c.node_slot-i.result c.node_slot-i.ensures c.if-i-ge-NODES.false
    (omega arith) c.place_of-place.result c.place_of-place.ensures in
    record { fits = omega (arith, h.most, h.says) }

pub returns-then-out-words : goal.returns-then-out-words
returns-then-out-words c =
    let a = c.args in
    let i = c.node_slot-i.result in
    let some : 0 < (get_or a.s.nodes i blank).answers = omega arith in
    let f = here a.s a.store.now a.plaques.now c.requires a.node i c.node_slot-i.ensures c.if-i-ge-NODES.false in
    let w = first a.s a.store.now a.plaques.now c.requires a.node i c.node_slot-i.ensures c.if-i-ge-NODES.false some in
    let h = lies a.s a.store.now a.plaques.now c.requires a.node i c.node_slot-i.ensures c.if-i-ge-NODES.false some c.place_of-place.result
    c.place_of-place.ensures in
    let g : bears a.form a.node ≡ true = sym c.bears.ensures ∙ c.if-bears.true in
    collected_16 full (machine a.s a.store.now a.plaques.now) a.form a.node (length a.out.now) c.requires i f.is f.slot
    (get_or a.s.nodes i blank) f.at some (word 0xFF a.node ∷ w) (shown_headed a.form a.node w g) a.out.now (omega (arith, h.says))

pub copy_answer-requires : goal.copy_answer-requires
copy_answer-requires c =
    let a = c.args in
    let h = lies a.s a.store.now a.plaques.now c.requires a.node c.node_slot-i.result c.node_slot-i.ensures c.if-i-ge-NODES.false
    (omega arith) c.place_of-place.result c.place_of-place.ensures in
    let e : length (set a.out.now 0 c.word.result) ≡ length a.out.now = length-set a.out.now 0 c.word.result in
    (omega (arith, h.inside, h.says), omega (arith, h.least, h.says), omega (arith, h.says))

pub overflow_add-result : goal.overflow_add-result
overflow_add-result c =
    let a = c.args in
    let h = lies a.s a.store.now a.plaques.now c.requires a.node c.node_slot-i.result c.node_slot-i.ensures c.if-i-ge-NODES.false
    (omega arith) c.place_of-place.result c.place_of-place.ensures in
    record { fits = omega (arith, h.most, h.says) }

pub returns-then-bears : goal.returns-then-bears
returns-then-bears c =
    let a = c.args in
    let i = c.node_slot-i.result in
    let some : 0 < (get_or a.s.nodes i blank).answers = omega arith in
    let f = here a.s a.store.now a.plaques.now c.requires a.node i c.node_slot-i.ensures c.if-i-ge-NODES.false in
    let w = first a.s a.store.now a.plaques.now c.requires a.node i c.node_slot-i.ensures c.if-i-ge-NODES.false some in
    let h = lies a.s a.store.now a.plaques.now c.requires a.node i c.node_slot-i.ensures c.if-i-ge-NODES.false some c.place_of-place.result
    c.place_of-place.ensures in
    let g : bears a.form a.node ≡ true = sym c.bears.ensures ∙ c.if-bears.true in
    let p = c.copy_answer in
    let q : p.new.out ≡ sets (set a.out.now 0 (word 0xFF a.node)) 1 w =
    p.ensures ∙ ap (sets (set a.out.now 0 c.word.result) 1) h.words ∙ ap (λ (k : ℕ). sets (set a.out.now 0 k) 1 w) c.word.ensures in
    collected_0 full (machine a.s a.store.now a.plaques.now) a.form a.node (length a.out.now) c.requires i f.is f.slot
    (get_or a.s.nodes i blank) f.at some (word 0xFF a.node ∷ w) (shown_headed a.form a.node w g) (omega (arith, h.says)) a.out.now p.new.out
    q _ (omega (arith, h.says))

pub returns-then-out-words-2 : goal.returns-then-out-words-2
returns-then-out-words-2 c =
    let a = c.args in
    let i = c.node_slot-i.result in
    let some : 0 < (get_or a.s.nodes i blank).answers = omega arith in
    let f = here a.s a.store.now a.plaques.now c.requires a.node i c.node_slot-i.ensures c.if-i-ge-NODES.false in
    let w = first a.s a.store.now a.plaques.now c.requires a.node i c.node_slot-i.ensures c.if-i-ge-NODES.false some in
    let h = lies a.s a.store.now a.plaques.now c.requires a.node i c.node_slot-i.ensures c.if-i-ge-NODES.false some c.place_of-place.result
    c.place_of-place.ensures in
    let g : bears a.form a.node ≡ false = sym c.bears.ensures ∙ c.if-bears.false in
    collected_16 full (machine a.s a.store.now a.plaques.now) a.form a.node (length a.out.now) c.requires i f.is f.slot
    (get_or a.s.nodes i blank) f.at some w (shown_bare a.form a.node w g) a.out.now (omega (arith, h.says))

pub copy_answer-requires-2 : goal.copy_answer-requires-2
copy_answer-requires-2 c =
    let a = c.args in
    let h = lies a.s a.store.now a.plaques.now c.requires a.node c.node_slot-i.result c.node_slot-i.ensures c.if-i-ge-NODES.false
    (omega arith) c.place_of-place.result c.place_of-place.ensures in
    (omega (arith, h.inside, h.says), omega (arith, h.least, h.says), omega (arith, h.says))

pub returns : goal.returns
returns c =
    let a = c.args in
    let i = c.node_slot-i.result in
    let some : 0 < (get_or a.s.nodes i blank).answers = omega arith in
    let f = here a.s a.store.now a.plaques.now c.requires a.node i c.node_slot-i.ensures c.if-i-ge-NODES.false in
    let w = first a.s a.store.now a.plaques.now c.requires a.node i c.node_slot-i.ensures c.if-i-ge-NODES.false some in
    let h = lies a.s a.store.now a.plaques.now c.requires a.node i c.node_slot-i.ensures c.if-i-ge-NODES.false some c.place_of-place.result
    c.place_of-place.ensures in
    let g : bears a.form a.node ≡ false = sym c.bears.ensures ∙ c.if-bears.false in
    let p = c.copy_answer-2 in
    collected_0 full (machine a.s a.store.now a.plaques.now) a.form a.node (length a.out.now) c.requires i f.is f.slot
    (get_or a.s.nodes i blank) f.at some w (shown_bare a.form a.node w g) (omega (arith, h.says)) a.out.now p.new.out
    (p.ensures ∙ ap (sets a.out.now 0) h.words) _ h.says
