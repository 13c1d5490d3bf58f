-- A command's turn, by what was said of it; and an answer that waits on a consistent machine is handed over.
-- Assumes nothing.
use Rattle.units.proofs.Common.{sym, ◌∙◌, ◌≡◌, refl, ap, subst, true, List, [], ◌∷◌, ℕ, ◌≤◌, ◌-◌, ◌+◌, ◌<◌, arith, leb, length, get_or, set}
use Rattle.units.proofs.Common.{get_or-set_same, eq-eqb, le-leb}
use lib.Seq.{set-set}
use Rattle.units.specs.declared.Words.{Words}
use Rattle.units.specs.declared.stamp.Stamp.{Stamp}
use Rattle.units.specs.declared.Form.TheVariants.{Register}
use Rattle.meaning.proofs.Terms.{Bench, full, is_reader, bears, Gateway, Call, command, collect, acknowledge, named, Result, handed, Said}
use Rattle.meaning.proofs.Terms.{refused, answered, queued, Outcome, step}
use Rattle.demands.specs.Sound.{Sound}
use Rattle.demands.proofs.Numbers.{refused_numbers}
use Rattle.machine.proofs.Terms.{fresh_node, Machine, machine, meaning, node_slot, unfit}
use Rattle.state.specs.declared.node.Node.{Node}
use Rattle.state.specs.declared.State.{State}
use Rattle.machine.proofs.Read.{blank, node_any}
use Rattle.promise.specs.Obeyed.{said_of, Does}
use Rattle.promise.specs.declared.Reply.{Reply}
use Rattle.promise.proofs.Promises.{saying, by_step}
use Rattle.promise.proofs.Steps.{collect_0, acknowledge_0}
use Rattle.promise.proofs.Oldest.{pending_long, takes, oldest, oldest_first, shown_bare}
use Rattle.promise.proofs.Chains.{Stepped, stepped}
use Rattle.promise.proofs.Parts.{parts}
use Rattle.promise.proofs.Tables.{reader_range}
use Rattle.store.specs.Changes.{with_lists}
use Rattle.settle.specs.Settled.{seated}
use Rattle.settle.specs.declared.Seated.{Seated}
use Rattle.handover.specs.Handed as H
use Rattle.text.specs.Text.{Put, words_line}
use Rattle.text.proofs.Writing.{length_words, put_as}
use Rattle.listing.specs.Lines.{refused_line}
use Rattle.listing.specs.Listing.{Turn, words_handed, handover_in, handed_over, heard, turn}
use Rattle.listingout.proofs.Rooms.{refused_short}
use Rattle.asking.specs.Ask.{longest, longest_line, Waiting, HandsOver, Plays}
use Rattle.asking.specs.declared.Handed.{Handed}
use Rattle.asking.proofs.Queued.{queues, waits}

-- a call as promised on a consistent machine: refused or not, the machine after is consistent and means the gateway after
pub took : {b : Bench} {c : Call} {m m' : Machine} {said : Said} → unfit b m ≡ 0 → Does b (step b (meaning b m) c) m said m'
    → Stepped b c m said m'
took {b} {c} {m} {m'} {said} u d = stepped b c m said m' u (by_step b m c u refl d)

-- ---- the answer that waits: w, at most as long as the longest, with the handover number
module _ (b : Bench) (n : ℕ) (m : Machine) where
  abbrev number : ℕ
  number = ((meaning b m).nodes n).handover

  pub record Hands (w : List ℕ) : Type 0 where
    pub few : length w ≤ longest
    pub first : (ws : List (List ℕ)) × (((meaning b m).nodes n).pending ≡ w ∷ ws)
    pub gives : (k : ℕ) → longest ≤ k → step b (meaning b m) (collect Register n k) ≡ saying (answered (handed w number)) (meaning b m)

  pub hands : Waiting b n m → (w : List ℕ) × Hands w
  unfolding bears
  hands h =
      let i : ℕ = node_slot b n in
      let x : Node = get_or m.state.nodes i fresh_node in
      let some : 0 < x.answers = omega (arith, h.some, pending_long b m h.sound n i h.node refl x refl) in
      let w : List ℕ = oldest b m h.sound n i h.node refl x refl some in
      let first = oldest_first b m h.sound n i h.node refl x refl some in
      let few : length w ≤ longest = (takes b m h.sound n i h.node refl x refl some).most in
      let bare = shown_bare Register n w refl in (
        w,
        record {
          few = few;
          first = first;
          gives = λ k room.
              collect_0 b (meaning b m) Register n k h.node w first.0 first.1
              (ap (λ (l : List ℕ). leb (length l) k) bare ∙ le-leb (length w) k (omega arith))
              ∙ ap (λ (l : List ℕ). saying (answered (handed l number)) (meaning b m)) bare;
        },
      )

  -- the turn's line, and the acknowledgement after it
  pub handed_over_lem : {w : List ℕ} → Hands w
      → handed_over b n (meaning b m) ≡ record { line = words_line w; after = (step b (meaning b m) (acknowledge n number)).next }
  unfolding handed_over words_handed handover_in
  handed_over_lem h =
      let over : Outcome → Turn = λ o. record {
        line = words_line (words_handed o.said);
        after = (step b o.next (acknowledge n (handover_in o.said))).next;
      } in
      ap over (h.gives longest (omega arith))

-- ---- a command's turn: the line that code wrote, and the machine that it left
module _ (b : Bench) (m m' : Machine) (t : Stamp) (ws : List ℕ) (fits : unfit b m ≡ 0) (reply : Reply)
    (d : Does b (step b (meaning b m) (command t Register ws)) m (said_of reply) m') where
  abbrev c : Call
  c = command t Register ws

  -- by what was said of it
  said_is : (s : Said) → said_of reply ≡ s → (step b (meaning b m) c).said ≡ s
  said_is s e = sym d.says ∙ e

  turn_said : (s : Said) → said_of reply ≡ s → turn b (meaning b m) t ws ≡ heard b (named c) (meaning b m') s
  unfolding turn
  turn_said s e =
      ap (heard b (named c) (step b (meaning b m) c).next) (said_is s e)
      ∙ ap (λ (g : Gateway). heard b (named c) g s) (sym (took fits d).means)

  -- no answer was made
  plays_none : (s : Said) → said_of reply ≡ s → (l : List ℕ) → heard b (named c) (meaning b m') s ≡ record { line = l; after = meaning b m' }
      → length l ≤ longest_line → {old new : List ℕ} {to at : ℕ} → Put old to l new at → Plays b (turn b (meaning b m) t ws) m' old to new at
  plays_none s e l h few {old} {new} {to} {at} p =
      subst (λ (o : Turn). Plays b o m' old to new at) (sym (turn_said s e ∙ h))
      (record { line = p; after = refl; sound = (took fits d).fit; room = few })

  pub plays_refused : Sound b → (k : ℕ) → reply ≡ Reply.Refused k → {old new : List ℕ} {to at : ℕ} → Put old to (refused_line k) new at
      → Plays b (turn b (meaning b m) t ws) m' old to new at
  unfolding said_of heard
  plays_refused ok k e =
      let n = refused_numbers b ok (meaning b m) c k (said_is (refused k) (ap said_of e)) in
      plays_none (refused k) (ap said_of e) (refused_line k) refl (omega (arith, refused_short k (omega (arith, n.1))))

  -- (of a command nothing else is said: its line would be empty)
  pub plays_answered : (x : Result) → said_of reply ≡ answered x → (old : List ℕ) (to : ℕ)
      → Plays b (turn b (meaning b m) t ws) m' old to old to
  unfolding heard
  plays_answered x e old to = plays_none (answered x) e [] refl (omega arith) (record { next = omega arith; wrote = refl })

  -- an answer was queued: it waits at the node that the packet names, and its words are the line
  module _ (e : reply ≡ Reply.Queued) (n i : ℕ) (is : n ≡ named c) (at : node_slot b n ≡ i) {own : Node} {held : List Words}
      (s : H.Slot i own held m'.state) where
    queued_is : said_of reply ≡ queued
    unfolding said_of
    queued_is = ap said_of e

    waiting : Waiting b n m'
    waiting =
        let q : (step b (meaning b m) c).said ≡ queued = said_is queued queued_is in
        let k = took fits d in
        subst (λ (n : ℕ). Waiting b n m') (sym is) (record {
          sound = k.fit;
          node = (queues b (meaning b m) c q).node;
          some = subst (λ (g : Gateway). 1 ≤ length (g.nodes (named c)).pending) (sym k.means) (waits b (meaning b m) c q);
        })

    pub waits_there : H.Waits b i own held m'.store
    waits_there = record {
      number = n;
      is = waiting.node;
      at = at;
      state = m'.state;
      memory = m'.memory;
      slot = s;
      fit = waiting.sound;
      some = omega (arith, waiting.some, pending_long b m' waiting.sound n i waiting.node at _ s.node);
    }

    -- .. on the state s' that has its list's parts put back
    pub plays_handed : {store'' old new : List ℕ} {to : ℕ} (r : Handed) → HandsOver b i own held m'.store store'' old to new r
        → (s' : State) → s' ≡ with_lists m'.state (set m'.state.nodes i r.node) r.held
        → Plays b (turn b (meaning b m) t ws) (machine s' store'' m'.memory) old to new r.at
    unfolding heard
    plays_handed {store''} {old} {new} {to} r h s' u =
        let o = h n waiting.node at m'.state m'.memory s waiting.sound in
        let p = hands b n m' waiting in
        let w : List ℕ = p.0 in
        let z : w ∷ p.1.first.0 ≡ o.oldest ∷ o.others = sym p.1.first.1 ∙ o.pending in
        let y : o.oldest ≡ w = cc in
        let k : ℕ = number b n m' in
        let a = acknowledge_0 b (meaning b m') n k waiting.node w p.1.first.0 p.1.first.1 (eq-eqb k k refl) in
        let v : turn b (meaning b m) t ws ≡ record { line = words_line w; after = (step b (meaning b m') (acknowledge n k)).next } =
        turn_said queued queued_is ∙ ap (λ (n : ℕ). handed_over b n (meaning b m')) (sym is) ∙ handed_over_lem b n m' p.1 in
        rw (v, u) (record {
          line = put_as (ap words_line y) o.line;
          after = o.means ∙ ap (λ (o : Outcome). o.next) (sym a);
          sound = o.fit;
          room = omega (arith, length_words w, p.1.few);
        })

-- ---- a list's parts, as code takes them out
-- of the state that it is given
pub slot_at : (m : Machine) → unfit full m ≡ 0 → (i : ℕ) → i < full.readers + 1
    → H.Slot i (get_or m.state.nodes i blank) m.state.held m.state
slot_at m fit i h = record { node = sym (node_any m.state.nodes i (omega (arith, (parts full m fit).each_node))); helds = refl }

-- of the parts that a call at a reader left; put back there
module _ (s : State) (n : ℕ) (r : Seated) where
  pub slot_seated : (store memory : List ℕ) → unfit full (machine s store memory) ≡ 0 → is_reader full n ≡ true
      → H.Slot (n - 1) r.node r.held (seated s n r)
  slot_seated store memory fit is =
      let m : Machine = machine s store memory in
      record {
        node = get_or-set_same s.nodes (n - 1) r.node fresh_node (omega (arith, reader_range full n is, (parts full m fit).each_node));
        helds = refl;
      }

  pub seated_again : (x : Node) (hs : List Words)
      → seated s n (record { node = x; held = hs; reader = r.reader; reply = r.reply })
      ≡ with_lists (seated s n r) (set (seated s n r).nodes (n - 1) x) hs
  seated_again x hs =
      ap (λ (ns : List Node). record { name = s.name; readers = set s.readers (n - 1) r.reader; nodes = ns; held = hs })
      (sym (set-set s.nodes (n - 1) r.node x))
