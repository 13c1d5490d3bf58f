-- The index is inside the array, whatever would be read past its end.
use Rattle.units.proofs.Common.{◌≡◌, arith, length, rules}
use Rattle.meaning.specs.Bench.{full}
use Rattle.machine.proofs.Terms.{fresh_reader}
use Rattle.std.proofs.lemmas.List.{get_or_default}
use Rattle.state.proofs.Lists.{length_mapped}
use Rattle.fit.proofs.reader_of.Goals as goal

pub returns : goal.returns
returns c =
    let n : length c.args.readers ≡ full.readers = search (rules, length_mapped) in
    get_or_default c.args.readers c.args.i _ fresh_reader (omega arith)
