-- A record at a place of the run file: what the code promises of its plaque arrived, and of its command heard.
-- Assumes nothing.
use Rattle.std.specs.Prelude.{ℕ, ◌≡◌, true, List, length, take, drop}
use Rattle.units.specs.declared.Bytes.{Bytes}
use Rattle.units.specs.declared.Words.{Words}
use Rattle.units.specs.declared.Form.TheVariants.{Register}
use Rattle.meaning.specs.Bench.{Bench, full}
use Rattle.meaning.specs.Packet.{overall}
use Rattle.meaning.specs.Gateway.{Gateway}
use Rattle.meaning.specs.Call.{command, judged, command_in, kind_in}
use Rattle.machine.specs.Machine.{Machine, meaning}
use Rattle.machine.specs.Consistent.{unfit}
use Rattle.listing.specs.Records.{plaque_node, plaque_length, plaque_whole, command_stamp, command_packet, command_length, command_whole}
use Rattle.listing.specs.Listing.{arrived}
use Rattle.hearing.specs.declared.HeardCommand.{HeardCommand}

-- the words of the longest packet, which has 255 bytes of data
abbrev pub longest : ℕ
longest = overall 255

pub record PlaqueHere (file : List ℕ) (at n : ℕ) (l : Bytes) : Type 0 where
  pub node : n ≡ plaque_node (drop at file)
  pub size : l.0 ≡ plaque_length (drop at file)
  pub whole : plaque_whole full (drop at file) ≡ true

pub record CommandHere (file : List ℕ) (at : ℕ) (n : Words) : Type 0 where
  pub size : n.0 ≡ command_length (drop at file)
  pub whole : command_whole (drop at file) ≡ true

pub record Arrives (b : Bench) (g : Gateway) (bs : List ℕ) (m : Machine) : Type 0 where
  pub means : meaning b m ≡ arrived b g bs
  pub sound : unfit b m ≡ 0

-- the command record at a place: its words stand in front of those lent, and it is judged by what it says alone
pub record Hears (file : List ℕ) (at : ℕ) (n : Words) (words : List ℕ) (r : HeardCommand) : Type 0 where
  pub stamp : r.stamp ≡ command_stamp (drop at file)
  pub packet : take n.0 words ≡ command_packet (drop at file)
  pub long : length words ≡ longest
  pub refusal : r.refusal ≡ judged full (command r.stamp Register (take n.0 words))
  pub kind : r.kind ≡ kind_in full Register (take n.0 words)
  pub what : r.what ≡ command_in Register (take n.0 words)
