-- A record that is not whole ends the text by `broken`; each command writes its line, refused, at the gateway or at a reader; bytes left at the
-- end are broken too.
use Rattle.units.proofs.Common.{sym, ◌∙◌, ◌≡◌, refl, true, ◌≤◌, ◌-◌, ◌+◌, ◌<◌, arith, length, drop}
use Rattle.meaning.proofs.Terms.{full, is_reader}
use Rattle.machine.proofs.Terms.{machine}
use Rattle.obey.proofs.Taking.{first, inside, seatable}
use Rattle.runfile.proofs.Records.{command_unread}
use Rattle.asking.specs.Ask.{longest_line}
use Rattle.hearing.specs.Here.{CommandHere}
use Rattle.hearing.proofs.Here.{command_there, command_here}
use Rattle.nightrun.proofs.Playing.{packet_inside, packet_long, accepts_here, reader_here, played_refused, played_hub, played_reader}
use Rattle.nightrun.proofs.Playing.{along_played, along_room, along_short, along_left, along_clean}
use Rattle.nightrun.proofs.walk.play.Goals as goal
use Rattle.nightrun.proofs.walk.play.Goals.{In-Some, Else-m-eq-HUB}

-- the record that was read, where it stands
here : (c : In-Some) → CommandHere c.args.file.now c.loop.at c.in-Some.size
here c = command_here c.args.file.now c.loop.at (sym c.in-Some.is ∙ c.read_command.ensures)

-- the reader of an accepted command that is not for the gateway, and its index
is : (c : Else-m-eq-HUB) → is_reader full c.hear-h.result.what.node ≡ true
is c = reader_here c.hear-h.ensures c.if-h-ne0.false c.if-m-eq-HUB.false

index : (c : Else-m-eq-HUB) → c.hear-h.result.what.node - 1 < 16
index c =
    inside (machine c.loop.s c.loop.store c.loop.plaques) c.loop.invariant.1.sound c.hear-h.result.what.node _ (is c)
    refl

pub returns-in_default : goal.returns-in_default
returns-in_default c =
    along_short c.loop.invariant.1 c.requires.ready (omega arith)
    (command_unread (drop c.loop.at c.args.file.now) (sym c.in_default.is ∙ c.read_command.ensures))
    c.put_broken.ensures

pub hear-h-requires : goal.hear-h-requires
hear-h-requires c =
    (here (goal.at.hear-h-requires c).In-Some, c.loop.invariant.0)

pub bytes-requires : goal.bytes-requires
bytes-requires c =
    omega (arith, (command_there c.args.file.now c.loop.at (here (goal.at.bytes-requires c).In-Some)).facts.high)

-- ---- the next turn: the packet was refused, was the gateway's, or a reader's
pub loop-preserved-then-h-ne0 : goal.loop-preserved-then-h-ne0
loop-preserved-then-h-ne0 c =
    let v = c.loop.invariant.1 in (
      c.hear-h.ensures.long,
      along_played v (omega arith) (here (goal.at.loop-preserved-then-h-ne0 c).In-Some) c.bytes.ensures
          (played_refused c.hear-h.ensures c.if-h-ne0.true v.sound c.put_refused-to.ensures),
    )

pub slice_bounds-packet-end : goal.slice_bounds-packet-end
slice_bounds-packet-end c =
    packet_inside c.hear-h.ensures (here (goal.at.slice_bounds-packet-end c).In-Some)

pub slice_bounds-words-end : goal.slice_bounds-words-end
slice_bounds-words-end c =
    packet_long c.hear-h.ensures (here (goal.at.slice_bounds-words-end c).In-Some)

pub loop-preserved-then-m-eq-HUB : goal.loop-preserved-then-m-eq-HUB
loop-preserved-then-m-eq-HUB c =
    let v = c.loop.invariant.1 in (
      c.hear-h.ensures.long,
      along_played v (omega arith) (here (goal.at.loop-preserved-then-m-eq-HUB c).In-Some) c.bytes.ensures
          (played_hub c.hear-h.ensures (machine c.loop.s c.loop.store c.loop.plaques) v.sound c.hub_turn-r.result c.hub_turn-r.ensures),
    )

pub overflow_sub-i : goal.overflow_sub-i
overflow_sub-i c =
    first (machine c.loop.s c.loop.store c.loop.plaques) c.loop.invariant.1.sound c.hear-h.result.what.node _ (is (goal.at.overflow_sub-i c).Else-m-eq-HUB) refl

pub bounds-s-i : goal.bounds-s-i
bounds-s-i c =
    let i = index (goal.at.bounds-s-i c).Else-m-eq-HUB in omega arith

pub bounds-s-i-in-loop : goal.bounds-s-i-in-loop
bounds-s-i-in-loop c = index (goal.at.bounds-s-i-in-loop c).Else-m-eq-HUB

pub reader_turn-r-requires : goal.reader_turn-r-requires
reader_turn-r-requires c =
    let room : c.loop.to + longest_line ≤ length c.loop.out = along_room c.loop.invariant.1 c.requires.ready in
    record {
      accepts = (
        accepts_here c.hear-h.ensures c.if-h-ne0.false,
        seatable (machine c.loop.s c.loop.store c.loop.plaques) c.loop.invariant.1.sound c.hear-h.result.what.node _
            (is (goal.at.reader_turn-r-requires c).Else-m-eq-HUB) refl,
      );
      longest_line_in_bounds = room;
    }

pub bounds-s-i-in-loop-2 : goal.bounds-s-i-in-loop-2
bounds-s-i-in-loop-2 c =
    let i = index (goal.at.bounds-s-i-in-loop-2 c).Else-m-eq-HUB in omega arith

pub bounds-s-i-in-loop-3 : goal.bounds-s-i-in-loop-3
bounds-s-i-in-loop-3 c = index (goal.at.bounds-s-i-in-loop-3 c).Else-m-eq-HUB

pub loop-preserved : goal.loop-preserved
loop-preserved c =
    let v = c.loop.invariant.1 in (
      c.hear-h.ensures.long,
      along_played v (omega arith) (here (goal.at.loop-preserved c).In-Some) c.bytes.ensures
          (played_reader c.hear-h.ensures (machine c.loop.s c.loop.store c.loop.plaques) v.sound c.reader_turn-r.result (is (goal.at.loop-preserved c).Else-m-eq-HUB) c.reader_turn-r.ensures),
    )

-- ---- the end
pub returns-then-at-file : goal.returns-then-at-file
returns-then-at-file c =
    let f = c.loop-test.false in
    let g = c.if-at-file.true in
    along_left c.loop.invariant.1 c.requires.ready (omega arith) (λ e. omega arith) c.put_broken-then-at-file.ensures

pub returns : goal.returns
returns c =
    let f = c.loop-test.false in
    let g = c.if-at-file.false in
    along_clean c.loop.invariant.1 c.requires.ready (omega arith) (omega arith)
