-- A record that is not whole, or no count, stands for the line `broken`; a plaque that arrived leaves the lines as they were.
use Rattle.units.proofs.Common.{sym, ◌∙◌, ◌≡◌, List, ℕ, ◌-◌, ◌+◌, arith, drop, length-drop}
use Rattle.meaning.proofs.Terms.{full}
use Rattle.runfile.proofs.Records.{plaque_read, plaque_unread, count_read, count_unread}
use Rattle.hearing.proofs.Standing.{plaque_on, plaque_off, count_off, stands_as, stands_broken, stands_counted}
use Rattle.hearing.proofs.opening.bring.Goals as goal

pub returns-in_default : goal.returns-in_default
returns-in_default c =
    let e = plaque_unread full (drop c.loop.at c.args.file.now) (sym c.in_default.is ∙ c.read_plaque.ensures) in
    stands_as (sym c.loop.invariant.3)
    (stands_broken (plaque_off full _ _ _ (omega arith) e) c.loop.invariant.2 _ c.broken.ensures)

pub arrive_at-t-requires : goal.arrive_at-t-requires
arrive_at-t-requires c =
    let r = plaque_read full (drop c.loop.at c.args.file.now) (sym c.in-Some.is ∙ c.read_plaque.ensures) in
    record {
      plaque_here = record { node = r.node; size = r.size; whole = r.whole };
      plaques_value = c.loop.invariant.2;
    }

pub loop-preserved : goal.loop-preserved
loop-preserved c =
    let r = plaque_read full (drop c.loop.at c.args.file.now) (sym c.in-Some.is ∙ c.read_plaque.ensures) in
    let file : List ℕ = c.args.file.now in
    let next : c.args.count - (c.loop.counter + 1) ≡ c.args.count - c.loop.counter - 1 = omega arith in (
      omega (arith, r.facts.there, r.facts.low, length-drop c.loop.at file),
      omega (arith, c.loop.invariant.1),
      c.arrive_at-t.ensures.sound,
      rw (next, c.arrive_at-t.ensures.means)
          (sym (plaque_on full _ file c.loop.at (c.args.count - c.loop.counter) _ (omega arith) r.whole r.size) ∙ c.loop.invariant.3),
    )

pub returns-in_default-read_count : goal.returns-in_default-read_count
returns-in_default-read_count c =
    let e = count_unread (drop c.loop.at c.args.file.now) (sym c.in_default-read_count.is ∙ c.read_count.ensures) in
    stands_as (sym c.loop.invariant.3)
    (stands_broken (count_off full _ _ _ (omega arith) e) c.loop.invariant.2 _ c.broken-in_default-read_count.ensures)

pub returns : goal.returns
returns c =
    let r = count_read (drop c.loop.at c.args.file.now) (sym c.in-Some-read_count.is ∙ c.read_count.ensures) in
    stands_as (sym c.loop.invariant.3)
    (stands_counted c.loop.at (omega arith) r.whole r.said c.requires.in_bounds.1 c.loop.invariant.2)
