-- What is written so far and the replies to the lines to come are all replies (Conversing.antt); each way around the loop is a line played,
-- by whom it is for (Speaking.antt).
-- Assumes nothing.
use Rattle.units.proofs.Common.{◌≡◌, refl, List, ℕ, ◌≤◌, ◌-◌, ◌+◌, arith, length, drop, take}
use Rattle.meaning.proofs.Terms.{full}
use Rattle.machine.proofs.Terms.{Machine, machine, unfit}
use Rattle.promise.proofs.Tables.{reader_range}
use Rattle.obey.proofs.Taking.{seatable, houseable}
use Rattle.dialog.specs.Spoken.{most_words, longest_id, longest_plaque}
use Rattle.dialog.specs.Dialog.{longest_answer}
use Rattle.dialogout.proofs.Rooms.{said_short}
use Rattle.gather.proofs.Pieces.{line_within}
use Rattle.talk.specs.Talk.{Plays}
use Rattle.talk.proofs.Hearing.{Buffered, understood}
use Rattle.talk.proofs.Aiming.{for_nobody, for_list, for_reader, for_gateway}
use Rattle.conversation.proofs.Conversing.{Along, along_start, along_parts, along_room, along_turn, along_done}
use Rattle.conversation.proofs.Speaking.{list_inside, list_needs, list_plays, reader_plays, hub_plays}
use Rattle.conversation.proofs.speak.Goals.{After-aim, After-read_line-heard, In-List, In-Reader}
use Rattle.conversation.proofs.speak.Goals as goal

-- ---- in a turn: the machine, and the line
abbrev whole : After-aim → Machine
whole c = machine c.loop-from.s c.loop-from.store c.loop-from.plaques

fits : (c : After-aim) → unfit full (whole c) ≡ 0
fits c = c.loop-from.invariant.3.sound

room : (c : After-aim) → c.loop-from.to + longest_answer ≤ length c.loop-from.out
room c = along_room c.loop-from.invariant.3 c.loop-from-test.true

abbrev line : After-aim → List ℕ
line c = take (c.line_end-end.result - c.loop-from.from) (drop c.loop-from.from c.args.input.now)

-- what the line that was read says, with what it left in the buffers
heard : (c : After-aim) → Buffered (line c) c.read_line-heard.result c.read_line-heard.new.words c.read_line-heard.new.id c.read_line-heard.new.bytes
heard c =
    let v = c.loop-from.invariant in
    let e = c.read_line-heard.ensures in
    understood _ _ _ v.0 v.1 v.2 _ (e.value, (e.words_after, (e.id_after, e.bytes_after)))

-- the next turn, once it was played
next : (c : After-aim) {new : List ℕ} {to : ℕ} {m : Machine} → Plays full (whole c) (line c) c.loop-from.out c.loop-from.to new to m
    → (length c.read_line-heard.new.words ≡ most_words) × (length c.read_line-heard.new.id ≡ longest_id)
    × (length c.read_line-heard.new.bytes ≡ longest_plaque)
    × Along c.args.input.now c.args.out.now new (machine c.args.opened c.args.store.now c.args.plaques.now) (c.line_end-end.result + 1) to m
next c p =
    let b = heard c in
    (b.words_long, b.id_long, b.bytes_long, along_turn c.loop-from.invariant.3 c.loop-from-test.true c.line_end-end.ensures p)

-- ---- the start
pub loop-from-init : goal.loop-from-init
loop-from-init c = (refl, refl, refl, along_start c.requires.plaques_value c.requires.longest_answer_in_bounds)

pub slice_bounds-read_line-end : goal.slice_bounds-read_line-end
slice_bounds-read_line-end c = omega (arith, c.line_end-end.ensures, line_within c.args.input.now c.loop-from.from (omega arith))

pub aim-requires : goal.aim-requires
aim-requires c =
    let v = c.loop-from.invariant in
    let e = c.read_line-heard.ensures in
    (understood _ _ _ v.0 v.1 v.2 _ (e.value, (e.words_after, (e.id_after, e.bytes_after)))).fits

-- ---- nobody
pub put_aside-to-requires : goal.put_aside-to-requires
put_aside-to-requires c =
    let p = (goal.at.put_aside-to-requires c).After-aim in
    (room p, rw (along_parts p.loop-from.invariant.3).store (for_nobody (heard p) p.aim.ensures c.in-Nobody.is).lies)

pub loop-from-preserved-in-Nobody : goal.loop-from-preserved-in-Nobody
loop-from-preserved-in-Nobody c =
    let p = (goal.at.loop-from-preserved-in-Nobody c).After-aim in
    next p ((for_nobody (heard p) p.aim.ensures c.in-Nobody.is).plays (fits p) c.put_aside-to.ensures)

-- ---- a list
pub bounds-s-i : goal.bounds-s-i
bounds-s-i c =
    let p = (goal.at.bounds-s-i c).After-aim in
    let f = for_list (heard p) p.aim.ensures c.in-List.is in
    list_inside (whole p) (fits p) c.in-List.node _ f.is c.node_slot-i.ensures

pub at_list-r-requires : goal.at_list-r-requires
at_list-r-requires c =
    let p = (goal.at.at_list-r-requires c).After-aim in
    let f = for_list (heard p) p.aim.ensures c.in-List.is in
    (list_needs (whole p) (fits p) c.in-List.node _ f.is c.node_slot-i.ensures, room p)

pub bounds-s-i-in-List : goal.bounds-s-i-in-List
bounds-s-i-in-List c =
    let p = (goal.at.bounds-s-i-in-List c).After-aim in
    let f = for_list (heard p) p.aim.ensures c.in-List.is in
    list_inside (whole p) (fits p) c.in-List.node _ f.is c.node_slot-i.ensures

pub loop-from-preserved-in-List : goal.loop-from-preserved-in-List
loop-from-preserved-in-List c =
    let p = (goal.at.loop-from-preserved-in-List c).After-aim in
    let f = for_list (heard p) p.aim.ensures c.in-List.is in
    next p (list_plays (whole p) (fits p) c.in-List.node _ f.is c.node_slot-i.ensures _ c.at_list-r.result f.says c.at_list-r.ensures)

-- ---- a reader
reader_low : (c : In-Reader) → (1 ≤ c.in-Reader.node) × (c.in-Reader.node ≤ 16)
reader_low c =
    let v = c.loop-from.invariant in
    let e = c.read_line-heard.ensures in
    let b = understood _ _ _ v.0 v.1 v.2 _ (e.value, (e.words_after, (e.id_after, e.bytes_after))) in
    reader_range full _ (for_reader b c.aim.ensures c.in-Reader.is).is

pub overflow_sub-i : goal.overflow_sub-i
overflow_sub-i c = (reader_low (goal.at.overflow_sub-i c).In-Reader).0

pub bounds-s-i-in-Reader : goal.bounds-s-i-in-Reader
bounds-s-i-in-Reader c = omega (arith, reader_low (goal.at.bounds-s-i-in-Reader c).In-Reader)

pub bounds-s-i-in-Reader-2 : goal.bounds-s-i-in-Reader-2
bounds-s-i-in-Reader-2 c = omega (arith, reader_low (goal.at.bounds-s-i-in-Reader-2 c).In-Reader)

pub at_reader-r-requires : goal.at_reader-r-requires
at_reader-r-requires c =
    let p = (goal.at.at_reader-r-requires c).After-aim in
    let f = for_reader (heard p) p.aim.ensures c.in-Reader.is in
    (f.asks, seatable (whole p) (fits p) c.in-Reader.node _ f.is refl)

pub bounds-s-i-in-Reader-3 : goal.bounds-s-i-in-Reader-3
bounds-s-i-in-Reader-3 c = omega (arith, reader_low (goal.at.bounds-s-i-in-Reader-3 c).In-Reader)

pub bounds-s-i-in-Reader-4 : goal.bounds-s-i-in-Reader-4
bounds-s-i-in-Reader-4 c = omega (arith, reader_low (goal.at.bounds-s-i-in-Reader-4 c).In-Reader)

pub put_said-to-requires : goal.put_said-to-requires
put_said-to-requires c = omega (arith, room (goal.at.put_said-to-requires c).After-aim)

pub loop-from-preserved-in-Reader : goal.loop-from-preserved-in-Reader
loop-from-preserved-in-Reader c =
    let p = (goal.at.loop-from-preserved-in-Reader c).After-aim in
    let u = c.put_said-to.ensures in
    let f = for_reader (heard p) p.aim.ensures c.in-Reader.is in
    next p (reader_plays (whole p) (fits p) c.in-Reader.node (c.in-Reader.node - 1) f.is refl _ c.at_reader-r.result
    f.says c.at_reader-r.ensures u
    (omega (arith, u.next, said_short c.at_reader-r.result.reply _ c.at_reader-r.type_inv.1.1.1.1.1.0)))

-- ---- the gateway itself
pub at_hub-r-requires : goal.at_hub-r-requires
at_hub-r-requires c =
    let p = (goal.at.at_hub-r-requires c).After-aim in
    let f = for_gateway (heard p) p.aim.ensures c.in-Gateway.is in
    (f.orders, f.own, houseable (whole p) (fits p))

pub put_said-to-requires-in-Gateway : goal.put_said-to-requires-in-Gateway
put_said-to-requires-in-Gateway c = omega (arith, room (goal.at.put_said-to-requires-in-Gateway c).After-aim)

pub loop-from-preserved : goal.loop-from-preserved
loop-from-preserved c =
    let p = (goal.at.loop-from-preserved c).After-aim in
    let u = c.put_said-to-in-Gateway.ensures in
    let f = for_gateway (heard p) p.aim.ensures c.in-Gateway.is in
    next p (hub_plays (whole p) (fits p) _ c.at_hub-r.result f.says c.at_hub-r.ensures u
    (omega (arith, u.next, said_short c.at_hub-r.result.reply _ c.at_hub-r.type_inv.1.1.1.1.1.0)))

pub returns : goal.returns
returns c = along_done c.loop-from.invariant.3 c.loop-from-test.false
