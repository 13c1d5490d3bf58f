-- Whom a line is for, by what the code found of it: a refusal's number, or none.
-- Assumes nothing.
use Rattle.units.proofs.Common.{sym, ◌∙◌, ◌≡◌, refl, ap, true, false, not, List, ℕ, ◌≤◌, ◌<◌, eqb, take, eq-eqb, ne_eqb, le-leb, lt-leb}
use Rattle.units.proofs.Common.{is_stamp, yes_cond, no_cond, yes_and, no_and}
use Rattle.units.specs.declared.Form.{Form}
use Rattle.units.specs.declared.Words.{Words}
use Rattle.units.specs.declared.Bytes.{Bytes}
use Rattle.units.specs.declared.stamp.Stamp.{Stamp}
use Rattle.meaning.proofs.Terms.{full, hub, is_reader, is_node, command, asked, judged, command_in, kind_in}
use Rattle.meaning.specs.declared.table.Kind.{Kind}
use Rattle.meaning.specs.declared.packet.Command.{Command}
use Rattle.meaning.proofs.Chain.{none, this, pass_if, stop_if}
use Rattle.lines.specs.declared.Heard.{Heard}
use Rattle.aiming.specs.declared.Aside.{Aside}
use Rattle.aiming.specs.declared.Want.{Want}
use Rattle.aiming.specs.declared.Order.{Order}
use Rattle.aiming.specs.declared.Ask.{Ask}
use Rattle.aiming.specs.declared.Whom.{Whom}
use Rattle.aiming.specs.Aim.{unless_refused, arrive_refusal, order_of, for_node, aimed}

stops : {k : ℕ} (j : ℕ) (w : Whom) → k ≡ j → eqb j 0 ≡ false → Whom.Nobody (Aside.Refused j) ≡ unless_refused k w
stops {k} j w e z = sym (no_cond w (ap (λ (i : ℕ). eqb i 0) e ∙ z) ∙ ap (λ (i : ℕ). Whom.Nobody (Aside.Refused i)) e)

goes : {k : ℕ} (w : Whom) → k ≡ 0 → w ≡ unless_refused k w
goes {k} w e = sym (yes_cond (Whom.Nobody (Aside.Refused k)) (eq-eqb k 0 e))

-- ---- a command, as `judge_command` judges it
module _ (t : Stamp) (f : Form) (n : Words) (ws : List ℕ) where
  pub command_stops : {k : ℕ} → k ≡ judged full (command t f (take n.0 ws)) → (k ≡ 0 → ⊥)
      → Whom.Nobody (Aside.Refused k) ≡ aimed full (Heard.Command t f n) ws
  unfolding aimed
  command_stops {k} e d = stops k _ (sym e) (ne_eqb k 0 d)

  module _ (e : judged full (command t f (take n.0 ws)) ≡ 0) {k : Kind} {c : Command} (kind : k ≡ kind_in full f (take n.0 ws))
      (what : c ≡ command_in f (take n.0 ws)) where
    order_is : ◌≡◌ {A = Order} (record { stamp = t; form = f; words = n; kind = k; what = c }) (order_of full t f n ws)
    unfolding order_of
    order_is =
        ap (λ (k : Kind). record { stamp = t; form = f; words = n; kind = k; what = c }) kind
        ∙ ap (λ (c : Command). record { stamp = t; form = f; words = n; kind = kind_in full f (take n.0 ws); what = c }) what

    aims : {w : Whom} → w ≡ for_node full (record { stamp = t; form = f; words = n; kind = k; what = c })
        → w ≡ aimed full (Heard.Command t f n) ws
    unfolding aimed
    aims q = q ∙ ap (for_node full) order_is ∙ goes (for_node full (order_of full t f n ws)) e

    pub command_gateway : c.node ≡ hub
        → Whom.Gateway (record { stamp = t; form = f; words = n; kind = k; what = c }) ≡ aimed full (Heard.Command t f n) ws
    unfolding for_node
    command_gateway h = aims (sym (yes_cond _ (eq-eqb c.node hub h)))

    pub command_reader : (c.node ≡ hub → ⊥)
        → Whom.Reader c.node (Ask.Command (record { stamp = t; form = f; words = n; kind = k; what = c }))
        ≡ aimed full (Heard.Command t f n) ws
    unfolding for_node
    command_reader d = aims (sym (no_cond _ (ne_eqb c.node hub d)))

-- ---- a field check
module _ (n : ℕ) (t : Stamp) (clock : ℕ) (ws : List ℕ) where
  pub check_3 : is_stamp t ≡ false → Whom.Nobody (Aside.Refused 3) ≡ aimed full (Heard.Check n t clock) ws
  unfolding aimed judged asked
  check_3 e = stops 3 _ (stop_if 3 _ refl (ap not e)) refl

  module _ (good : is_stamp t ≡ true) where
    pub check_7 : is_reader full n ≡ false → Whom.Nobody (Aside.Refused 7) ≡ aimed full (Heard.Check n t clock) ws
    unfolding aimed judged asked
    check_7 e = stops 7 _ (pass_if 3 _ (ap not good) ∙ stop_if 7 _ refl (ap not e)) refl

    pub check_0 : is_reader full n ≡ true → Whom.Reader n (Ask.Check t clock) ≡ aimed full (Heard.Check n t clock) ws
    unfolding aimed judged asked
    check_0 e = goes _ (pass_if 3 _ (ap not good) ∙ pass_if 7 _ (ap not e) ∙ none 10 refl)

-- ---- an arrival
module _ (n : ℕ) (i k : Bytes) (ws : List ℕ) where
  pub arrive_7 : is_reader full n ≡ false → Whom.Nobody (Aside.Refused 7) ≡ aimed full (Heard.Arrive n i k) ws
  unfolding aimed arrive_refusal
  arrive_7 e = stops 7 _ (stop_if 7 _ refl (ap not e)) refl

  module _ (is : is_reader full n ≡ true) where
    pub arrive_9 : (i.0 ≡ 8 → ⊥) → Whom.Nobody (Aside.Refused 9) ≡ aimed full (Heard.Arrive n i k) ws
    unfolding aimed arrive_refusal
    arrive_9 d = stops 9 _ (pass_if 7 _ (ap not is) ∙ stop_if 9 _ refl (ap not (ne_eqb i.0 8 d))) refl

    module _ (eight : i.0 ≡ 8) where
      pub arrive_few : k.0 < 1 → Whom.Nobody (Aside.Refused 10) ≡ aimed full (Heard.Arrive n i k) ws
      unfolding aimed arrive_refusal
      arrive_few h =
          stops 10 _ (pass_if 7 _ (ap not is) ∙ pass_if 9 _ (ap not (eq-eqb i.0 8 eight))
          ∙ this 10 (ap not (no_and _ (lt-leb 1 k.0 h)))) refl

      pub arrive_many : 1 ≤ k.0 → full.region < k.0 → Whom.Nobody (Aside.Refused 10) ≡ aimed full (Heard.Arrive n i k) ws
      unfolding aimed arrive_refusal
      arrive_many l h =
          stops 10 _ (pass_if 7 _ (ap not is) ∙ pass_if 9 _ (ap not (eq-eqb i.0 8 eight))
          ∙ this 10 (ap not (yes_and (le-leb 1 k.0 l) ∙ lt-leb k.0 full.region h))) refl

      pub arrive_0 : 1 ≤ k.0 → k.0 ≤ full.region → Whom.Reader n (Ask.Arrive i k) ≡ aimed full (Heard.Arrive n i k) ws
      unfolding aimed arrive_refusal
      arrive_0 l h =
          goes _ (pass_if 7 _ (ap not is) ∙ pass_if 9 _ (ap not (eq-eqb i.0 8 eight))
          ∙ none 10 (ap not (yes_and (le-leb 1 k.0 l) ∙ le-leb k.0 full.region h)))

-- ---- the calls that say little more than a node
module _ (n : ℕ) (ws : List ℕ) where
  pub leave_7 : is_reader full n ≡ false → Whom.Nobody (Aside.Refused 7) ≡ aimed full (Heard.Leave n) ws
  unfolding aimed judged asked
  leave_7 e = stops 7 _ (this 7 (ap not e)) refl

  pub leave_0 : is_reader full n ≡ true → Whom.Reader n Ask.Leave ≡ aimed full (Heard.Leave n) ws
  unfolding aimed judged asked
  leave_0 e = goes _ (none 7 (ap not e))

  pub collect_7 : (f : Form) → is_node full n ≡ false → Whom.Nobody (Aside.Refused 7) ≡ aimed full (Heard.Collect n f) ws
  unfolding aimed judged asked
  collect_7 f e = stops 7 _ (this 7 (ap not e)) refl

  pub collect_0 : (f : Form) → is_node full n ≡ true → Whom.List n (Want.Collect f) ≡ aimed full (Heard.Collect n f) ws
  unfolding aimed judged asked
  collect_0 f e = goes _ (none 7 (ap not e))

  pub acknowledge_7 : (h : ℕ) → is_node full n ≡ false → Whom.Nobody (Aside.Refused 7) ≡ aimed full (Heard.Acknowledge n h) ws
  unfolding aimed judged asked
  acknowledge_7 h e = stops 7 _ (this 7 (ap not e)) refl

  pub acknowledge_0 : (h : ℕ) → is_node full n ≡ true → Whom.List n (Want.Acknowledge h) ≡ aimed full (Heard.Acknowledge n h) ws
  unfolding aimed judged asked
  acknowledge_0 h e = goes _ (none 7 (ap not e))
