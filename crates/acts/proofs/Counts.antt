-- What a call's outcome takes of its node is the count.
-- Assumes nothing.
use Rattle.units.proofs.Common.{sym, ◌≡◌, refl, ap, false, List, [], ◌∷◌, ℕ}
use Rattle.units.specs.declared.stamp.Stamp.{Stamp}
use Rattle.meaning.proofs.Terms.{hub, response_body, Node, Reader, Field, empty, plaque, Mode, off, on, clearing, emptied, swept, Local}
use Rattle.meaning.proofs.Terms.{answer, tag_not_found, tagged, obeyed, looked, ruled, governed}
use Rattle.meaning.specs.declared.table.OnPlaque.{OnPlaque}
use Rattle.meaning.specs.declared.table.OnPlaque.TheVariants.{Fill, Read, Write, ReadId, Search}
use Rattle.meaning.specs.declared.table.OfGateway.TheVariants.{GetName, SetName, Initialise, ResetGateway, Clear}
use Rattle.meaning.specs.declared.table.Kind.{Kind}
use Rattle.meaning.specs.declared.table.Kind.TheVariants as K
use Rattle.meaning.specs.declared.packet.Command.{Command}
use Rattle.answers.specs.Decided.{bare}

module _ (n : ℕ) (y : Node) (t : Stamp) where
  module _ (m : Command) (bs : List ℕ) (r : Reader) where
    tagged_count : (k : OnPlaque) (f : Field) → tagged n (bare y.count) t k m bs r f ≡ tagged n y t k m bs r f
    unfolding tagged answer tag_not_found
    tagged_count Fill empty = refl
    tagged_count Read empty = refl
    tagged_count Write empty = refl
    tagged_count ReadId empty = refl
    tagged_count Search empty = refl
    tagged_count Fill (plaque id len) = refl
    tagged_count Read (plaque id len) = refl
    tagged_count Write (plaque id len) = refl
    tagged_count ReadId (plaque id len) = refl
    tagged_count Search (plaque id len) = refl

    pub obeyed_count : (k : Kind) → obeyed n (bare y.count) t k m bs r ≡ obeyed n y t k m bs r
    unfolding obeyed answer
    obeyed_count (K.Plaque k) = tagged_count k r.field
    obeyed_count K.Continuous = refl
    obeyed_count K.ResetReader = refl
    obeyed_count (K.Gateway k) = refl
    obeyed_count K.Unknown = refl

  pub looked_count : (clock : ℕ) (r : Reader) (f : Field) (m : Mode) → looked n (bare y.count) t clock r f m ≡ looked n y t clock r f m
  unfolding looked answer
  looked_count clock r empty m = refl
  looked_count clock r (plaque id len) off = refl
  looked_count clock r (plaque id len) (on start size delay rep) = refl

module _ (y : Node) (s : List ℕ) (t : Stamp) (bs : List ℕ) where
  kept_count : (ws : List (List ℕ)) → (emptied y ws).count ≡ y.count
  unfolding emptied
  kept_count [] = refl
  kept_count (w ∷ ws) = refl

  pub governed_count : (k : Kind) → governed (bare y.count) s t k bs ≡ governed y s t k bs
  unfolding governed ruled answer swept emptied
  governed_count (K.Gateway GetName) = refl
  governed_count (K.Gateway SetName) = refl
  governed_count (K.Gateway Initialise) = refl
  governed_count (K.Gateway ResetGateway) = refl
  governed_count (K.Gateway Clear) =
      ap (λ (c : ℕ). Local.due (record { broom = clearing; title = s })
      (response_body (record { error = false; echo = 0x79; count = c; node = hub; stamp = t }) []))
      (sym (kept_count y.pending))
  governed_count (K.Plaque k) = refl
  governed_count K.Continuous = refl
  governed_count K.ResetReader = refl
  governed_count K.Unknown = refl
