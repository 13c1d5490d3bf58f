-- In a night no answer is pending before a command, so that the answer handed over after it is this command's own.
-- Assumes nothing.
use Rattle.units.proofs.Common.{sym, ◌∙◌, ◌≡◌, refl, ap, subst, List, [], ◌∷◌, ◌++◌, ℕ, arith, eqb, drop, eq-eqb, ne_eqb, no_cond}
use Rattle.units.specs.declared.stamp.Stamp.{Stamp}
use Rattle.units.specs.declared.Form.TheVariants.{Register}
use Rattle.meaning.proofs.Terms.{Bench, Node, Gateway, fresh, put, set_node, taken, Call, command, arrive, acknowledge, judged, at_reader}
use Rattle.meaning.proofs.Terms.{at_hub, Whom, named, whom, Try, lifted, heeded, tried, Said, refused, answered, queued, Outcome, step}
use Rattle.demands.proofs.Local.{cond_all}
use Rattle.listing.specs.Records.{plaque_node, plaque_id, plaque_bytes}
use Rattle.demands.specs.Counts.{answer_due}
use Rattle.machine.proofs.Terms.{Machine, meaning, unfit}
use Rattle.promise.specs.Obeyed.{Does}
use Rattle.promise.proofs.Steps.{acknowledge_0}
use Rattle.text.specs.Text.{words_line}
use Rattle.listing.specs.Listing.{Turn, heard, turn, arrived, blank}
use Rattle.asking.specs.Ask.{NonePending, Waiting}
use Rattle.asking.proofs.Queued.{Queues, queues, joins, set_none, step_none}
use Rattle.asking.proofs.Asking.{took, hands, handed_over_lem}

-- ---- at the start, and when plaques arrive
pub none_blank : (b : Bench) → NonePending (blank b)
unfolding blank fresh
none_blank b n = refl

Undue : Try → Type 0
Undue (Try.refuse k) = Unit
Undue (Try.give r h) = Unit
Undue (Try.due n h w) = ⊥

arrive_undue : (b : Bench) (g : Gateway) (n : ℕ) (id s : List ℕ) → Undue (tried b g (arrive n id s))
unfolding tried heeded at_reader at_hub lifted Undue
arrive_undue b g n id s = cond_all Undue (eqb (judged b (arrive n id s)) 0) _ _ (by_whom (whom b (arrive n id s))) tt
  where
    by_whom : (v : Whom) → Undue (heeded b g (arrive n id s) v)
    by_whom Whom.nobody = tt
    by_whom Whom.gateway = tt
    by_whom (Whom.one k) = tt

pub none_arrived : (b : Bench) (g : Gateway) (bs : List ℕ) → NonePending g → NonePending (arrived b g bs)
unfolding arrived Undue
none_arrived b g bs z =
    let c : Call = arrive (plaque_node bs) (plaque_id bs) (plaque_bytes bs) in
    step_none b g c (λ q. subst Undue (queues b g c q).due (arrive_undue b g (plaque_node bs) (plaque_id bs) (plaque_bytes bs))) z

-- ---- a command that has no answer
pub turn_none : (b : Bench) (g : Gateway) (t : Stamp) (ws : List ℕ) → ((step b g (command t Register ws)).said ≡ queued → ⊥)
    → NonePending g → NonePending (turn b g t ws).after
unfolding turn heard
turn_none b g t ws q z = by_said (step b g c).said refl
  where
    c : Call
    c = command t Register ws

    by_said : (s : Said) → (step b g c).said ≡ s → NonePending (heard b (named c) (step b g c).next s).after
    by_said (refused k) e = step_none b g c q z
    by_said (answered r) e = step_none b g c q z
    by_said queued e = absurd (q e)

-- ---- one that was queued, on a consistent machine
module _ (b : Bench) (m m' : Machine) (t : Stamp) (ws : List ℕ) (fits : unfit b m ≡ 0) (none : NonePending (meaning b m)) where
  abbrev c : Call
  c = command t Register ws

  abbrev g : Gateway
  g = meaning b m

  module _ (d : Does b (step b g c) m queued m') where
    abbrev made : Queues b g c
    made = queues b g c (sym d.says)

    alone : ((meaning b m').nodes (named c)).pending ≡ made.answer ∷ []
    alone =
        ap (λ (h : Gateway). (h.nodes (named c)).pending) (took fits d).means
        ∙ joins b g c (sym d.says)
        ∙ ap (λ (l : List (List ℕ)). l ++ (made.answer ∷ [])) (made.only none (named c))

    others : (k : ℕ) → (k ≡ named c → ⊥) → ((meaning b m').nodes k).pending ≡ []
    unfolding put
    others k f =
        ap (λ (h : Gateway). (h.nodes k).pending) ((took fits d).means ∙ made.next)
        ∙ ap (λ (x : Node). x.pending) (no_cond _ (ne_eqb k (named c) f))
        ∙ made.only none k

    -- its line is that of the answer that was due to it; and when that is acknowledged, none is pending again
    pub turn_answer : ((turn b g t ws).line ≡ words_line (answer_due (tried b g c))) × NonePending (turn b g t ws).after
    unfolding turn heard answer_due taken
    turn_answer =
        let k = took fits d in
        let n : ℕ = named c in
        let number : ℕ = ((meaning b m').nodes n).handover in
        let wait : Waiting b n m' = record {
          sound = k.fit;
          node = made.node;
          some = rw alone (omega arith);
        } in
        let (w, h) = hands b n m' wait in
        let (vs, first) = h.first in
        let same : w ∷ vs ≡ made.answer ∷ [] = sym first ∙ alone in
        let own : w ≡ made.answer = cc in
        let last : vs ≡ [] = cc in
        let o : turn b g t ws ≡ record { line = words_line w; after = (step b (meaning b m') (acknowledge n number)).next } =
        ap (heard b n (step b g c).next) (sym d.says)
        ∙ ap (λ (h : Gateway). heard b n h queued) (sym k.means)
        ∙ handed_over_lem b n m' h in
        let q : (step b (meaning b m') (acknowledge n number)).next ≡ set_node n (taken ((meaning b m').nodes n)) (meaning b m') =
        ap (λ (o : Outcome). o.next) (acknowledge_0 b (meaning b m') n number made.node w vs first (eq-eqb number number refl)) in (
          ap (λ (o : Turn). o.line) o ∙ ap words_line (own ∙ sym (ap answer_due made.due)),
          subst NonePending (sym (ap (λ (o : Turn). o.after) o ∙ q))
              (set_none n (taken ((meaning b m').nodes n)) (meaning b m') (ap (drop 1) first ∙ last) others),
        )
