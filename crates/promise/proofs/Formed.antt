-- What a node's answer is by the code's count, and that it is well formed as one of its node's.
-- Assumes nothing.
use Rattle.units.proofs.Common.{sym, ◌∙◌, ◌≡◌, ap, true, List, ℕ, ◌≤◌, ◌-◌, ◌<◌, arith, length, eq-eqb, le-ltb, lt-ltb, is_stamp, yes_cond}
use Rattle.units.proofs.Common.{no_cond}
use Rattle.units.specs.declared.Form.TheVariants.{Register}
use Rattle.units.specs.declared.stamp.Stamp.{Stamp}
use Rattle.meaning.proofs.Terms.{Bench, hub, is_reader, is_node, bears, shown, well_formed, Node, answer, tag_not_found}
use Rattle.demands.specs.Sound.{Sound}
use Rattle.demands.proofs.ReadBack.{answer_read, tag_not_found_read}
use Rattle.machine.proofs.Terms.{node_at}
use Rattle.lists.proofs.WordsRead.{read_formed}
use Rattle.promise.proofs.Tables.{reader_range}

-- ---- the node of an index
pub reader_index : (b : Bench) (n : ℕ) → is_reader b n ≡ true → node_at b (n - 1) ≡ n
reader_index b n is =
    let i = reader_range b n is in
    yes_cond hub (lt-ltb (n - 1) b.readers (omega arith)) ∙ omega arith

pub hub_index : (b : Bench) → node_at b b.readers ≡ hub
hub_index b = no_cond _ (le-ltb b.readers b.readers (omega arith))

-- ---- well formed, as one of the node at index i: n - 1 for a reader, the number of readers for the gateway
module _ (b : Bench) (ok : Sound b) (n i : ℕ) (at : node_at b i ≡ n) (x : Node) (t : Stamp) (known : is_node b n ≡ true)
    (good : is_stamp t ≡ true) (w : List ℕ) where
  pub answer_formed : (echo : ℕ) (s : List ℕ) → w ≡ answer n x t echo s → echo < 256 → length s ≤ 255 → well_formed b (node_at b i) w ≡ true
  unfolding shown bears
  answer_formed echo s e small short =
      ap (well_formed b (node_at b i)) e ∙ read_formed b _ _ _ _ (answer_read b ok n x t known good Register echo s small short) ∙ eq-eqb _ _
      (sym at)

  pub not_found_formed : w ≡ tag_not_found n x t → well_formed b (node_at b i) w ≡ true
  unfolding shown bears
  not_found_formed e =
      ap (well_formed b (node_at b i)) e ∙ read_formed b _ _ _ _ (tag_not_found_read b ok n x t known good Register) ∙ eq-eqb _ _ (sym at)
