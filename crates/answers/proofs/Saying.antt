-- A response that may be said is written whole, and is a well-formed response of its node.
-- Assumes nothing.
use Rattle.units.proofs.Common.{sym, ◌∙◌, ◌≡◌, refl, ap, true, List, ℕ, ◌≤◌, ◌<◌, arith, ltb, length, take, take_at, eq-eqb, le-ltb}
use Rattle.units.proofs.Common.{ltb-false, is_stamp, yes_cond, no_or, or_false}
use Rattle.units.proofs.PackingLaws.{sets_fits}
use Rattle.units.specs.declared.Form.TheVariants.{Register}
use Rattle.units.specs.declared.stamp.Stamp.{Stamp}
use Rattle.meaning.proofs.Terms.{full, is_node, overall, written_output, amount_wrong, error_wrong, response_body, bears, shown, shown_count}
use Rattle.meaning.proofs.Terms.{response_words, response_output, well_formed}
use Rattle.meaning.specs.Response.{respond_refusal}
use Rattle.meaning.specs.declared.packet.Response.{Response}
use Rattle.meaning.proofs.ResponseLaws.{count_responded, writes, read_responded}
use Rattle.lists.proofs.WordsRead.{read_formed}
use Rattle.answers.specs.Say.{good, Sayable, Says}

module _ (r : Response) (bs : List ℕ) (room : ℕ) (a : Sayable full r (length bs) room) where
  pub short : length bs ≤ 255
  unfolding amount_wrong
  short = ltb-false 255 (length bs) (or_false (ltb 255 (length bs)) _ a.amount).0

  accepted : respond_refusal full Register r (length bs) room ≡ 0
  unfolding amount_wrong error_wrong shown_count bears
  accepted =
      let l = short in
      let q = a.long in
      writes full Register r (length bs) room (record {
        stamp = a.stamp;
        node = a.node;
        short = l;
        error = (or_false (ltb 255 (length bs)) _ a.amount).1;
        fits = omega arith;
      })

  formed : r.echo < 256 → r.node < 256 → well_formed full r.node (response_body r bs) ≡ true
  unfolding response_words shown bears
  formed e n =
      read_formed full r.node (response_body r bs) r (record { 0 = length bs }) (read_responded full Register r bs room e n accepted) ∙
      eq-eqb r.node r.node refl

  pub says : r.echo < 256 → r.node < 256 → (out out' : List ℕ) → length out ≡ room → length out' ≡ room → out' ≡ response_output full
      Register r bs out
      → (k : ℕ) → k ≡ overall (length bs) → Says full r bs k out'
  unfolding response_output written_output response_words shown bears shown_count
  says e n out out' l l' w k c =
      let s = short in
      let q = a.long in
      let same : take k out' ≡ response_body r bs =
      ap (take k) (w ∙ yes_cond _ (eq-eqb _ 0 (ap (respond_refusal full Register r (length bs)) l ∙ accepted)))
      ∙ ap (take k) (sets_fits (response_body r bs) out (omega (arith, count_responded Register r bs)))
      ∙ take_at (response_body r bs) _ k (count_responded Register r bs ∙ sym c) in
      record { inside = omega arith; words = same; formed = ap (well_formed full r.node) same ∙ formed e n }

-- a response without an error
pub good_sayable : {r : Response} {echo count n : ℕ} {t : Stamp} → r ≡ good count n t echo → is_node full n ≡ true → is_stamp t ≡ true
    → (bytes : ℕ) → bytes ≤ 255 → {room : ℕ} → overall 255 ≤ room → Sayable full r bytes room
unfolding amount_wrong
good_sayable e is valid bytes h l = record {
  stamp = ap (λ (r : Response). is_stamp r.stamp) e ∙ valid;
  node = ap (λ (r : Response). is_node full r.node) e ∙ is;
  amount = ap (λ (r : Response). amount_wrong r.error bytes) e ∙ no_or (le-ltb 255 bytes h);
  long = l;
}
