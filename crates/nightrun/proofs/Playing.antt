-- The commands, a line each: what holds at each turn of the loop, and each way around it.
-- Assumes nothing.
use Rattle.units.proofs.Common.{sym, ◌∙◌, ◌≡◌, refl, ap, subst, true, false, not, List, [], ◌∷◌, ◌++◌, append-nil, ℕ, ◌≤◌, ◌-◌, ◌+◌, ◌<◌}
use Rattle.units.proofs.Common.{◌*◌, arith, length, drop, get_or, take, length-drop, length-append, length-take-le, sets, ne_eqb}
use Rattle.units.specs.Count.{twice}
use Rattle.units.specs.declared.Words.{Words}
use Rattle.units.specs.declared.Form.TheVariants.{Register}
use Rattle.units.specs.declared.stamp.Stamp.{Stamp}
use Rattle.meaning.proofs.Terms.{Bench, full, hub, is_reader, is_node, Gateway, command_of, command, judged, command_in, named, Outcome}
use Rattle.meaning.specs.declared.packet.Command.{Command}
use Rattle.demands.proofs.Numbers.{who, judged_low, judged_given}
use Rattle.machine.proofs.Terms.{Machine, machine, meaning, unfit}
use Rattle.machine.proofs.Read.{blank}
use Rattle.promise.proofs.Accepted.{reader_suited}
use Rattle.answers.proofs.Indices.{blank_reader}
use Rattle.settle.specs.Settled.{seated, housed}
use Rattle.settle.proofs.Seating.{seat_of}
use Rattle.text.specs.Text.{Put}
use Rattle.text.proofs.Writing.{put_turn, put_length}
use Rattle.listing.specs.Records.{command_whole, command_stamp}
use Rattle.listing.specs.Lines.{refused_line, broken_line, flat}
use Rattle.listing.specs.Listing.{Turn, heard, turn, turned, command_lines}
use Rattle.listingout.proofs.Rooms.{refused_short, length_broken}
use Rattle.asking.specs.Ask as A
use Rattle.asking.specs.Ask.{longest_line, Accepts, SeatPlays, HousePlays}
use Rattle.asking.specs.declared.ReaderTurn.{ReaderTurn}
use Rattle.asking.specs.declared.HubTurn.{HubTurn}
use Rattle.hearing.specs.Here.{CommandHere, Hears}
use Rattle.hearing.specs.declared.HeardCommand.{HeardCommand}
use Rattle.hearing.proofs.Here.{command_there}
use Rattle.hearing.specs.Opened.{to_come}
use Rattle.hearing.specs.declared.opening.Walk.{Walk}
use Rattle.nightrun.specs.Walk.{Ready, Plays}
use Rattle.nightrun.proofs.Records.{flat_more, command_on, command_off, commands_end, commands_left}

-- ---- a command that was heard
module _ {file : List ℕ} {at : ℕ} {n : Words} {words : List ℕ} {r : HeardCommand} (h : Hears file at n words r) where
  abbrev ws : List ℕ
  ws = take n.0 words

  pub packet_inside : CommandHere file at n → n.0 ≤ length words
  packet_inside k = omega (arith, (command_there file at k).facts.high, h.long)

  pub packet_long : CommandHere file at n → n.0 ≡ length ws
  packet_long k = sym (length-take-le n.0 words (packet_inside k))

  turn_here : (b : Bench) (g : Gateway) → turned b g (drop at file) ≡ turn b g r.stamp ws
  unfolding turned
  turn_here b g = ap (turn b g (command_stamp (drop at file))) (sym h.packet) ∙ ap (λ (t : Stamp). turn b g t ws) (sym h.stamp)

  plays_here : (g : Gateway) {m : Machine} {old new : List ℕ} {to end : ℕ} → A.Plays full (turn full g r.stamp ws) m old to new end
      → A.Plays full (turned full g (drop at file)) m old to new end
  plays_here g {m} {old} {new} {to} {end} p = subst (λ (o : Turn). A.Plays full o m old to new end) (sym (turn_here full g)) p

  -- a packet that is refused by what it says alone
  module _ (bad : r.refusal ≡ 0 → ⊥) where
    turn_refused : (g : Gateway) → turn full g r.stamp ws ≡ record { line = refused_line r.refusal; after = g }
    unfolding turn heard
    turn_refused g =
        let c = command r.stamp Register ws in
        ap (λ (o : Outcome). heard full (named c) o.next o.said) (judged_given full g c (λ e. bad (h.refusal ∙ e)))
        ∙ ap (λ (k : ℕ). record { line = refused_line k; after = g }) (sym h.refusal)

    pub played_refused : {m : Machine} {old new : List ℕ} {to end : ℕ} → unfit full m ≡ 0 → Put old to (refused_line r.refusal) new end
        → A.Plays full (turned full (meaning full m) (drop at file)) m old to new end
    played_refused {m} {old} {new} {to} {end} u p =
        let few = judged_low full (command r.stamp Register ws) in
        plays_here (meaning full m) (subst (λ (o : Turn). A.Plays full o m old to new end) (sym (turn_refused (meaning full m)))
        (record {
          line = p;
          after = refl;
          sound = u;
          room = omega (arith, refused_short r.refusal (omega (arith, h.refusal, few)));
        }))

  -- one that is accepted
  module _ (fine : r.refusal ≡ 0) where
    good : judged full (command r.stamp Register ws) ≡ 0
    good = sym h.refusal ∙ fine

    pub accepts_here : Accepts full r.stamp ws r.kind r.what
    accepts_here = record { fine = good; kind = h.kind; what = h.what }

    pub reader_here : (r.what.node ≡ hub → ⊥) → is_reader full r.what.node ≡ true
    unfolding named command_in command_of
    reader_here other =
        let k : is_node full r.what.node ≡ true =
        ap (λ (m : Command). is_node full m.node) h.what ∙ (who full r.stamp Register ws good).0 in
        reader_suited full r.what.node k (ap not (ne_eqb r.what.node hub other))

  -- at its node: the parts of the state taken out, and put back
  module _ (m : Machine) (u : unfit full m ≡ 0) {store' out new : List ℕ} {to : ℕ} where
    pub played_hub : (q : HubTurn)
        → HousePlays full r.stamp ws m.state.nodes m.state.held m.state.name m.store q store' out to new
        → A.Plays full (turned full (meaning full m) (drop at file)) (machine (housed m.state q.house) store' m.memory) out to new
        q.at
    played_hub q d = plays_here (meaning full m) (d m.state m.memory (record { all = refl; helds = refl; title = refl }) u)

    pub played_reader : {memory' : List ℕ} (q : ReaderTurn) → is_reader full r.what.node ≡ true
        → SeatPlays full r.stamp ws r.what.node (get_or m.state.nodes (r.what.node - 1) blank)
        (get_or m.state.readers (r.what.node - 1) blank_reader) m.state.held m.store m.memory q store' memory' out to new
        → A.Plays full (turned full (meaning full m) (drop at file)) (machine (seated m.state r.what.node q.seat) store' memory')
        out to new q.at
    played_reader q is d = plays_here (meaning full m) (d m.state (seat_of m u r.what.node is) u)

-- ---- the loop: the lines of the walk w from the gateway g on, written from a place of the output on
-- what holds at each turn: what is still to come makes the whole text, and the place in the output is bounded by the place in the file,
-- since a record takes at least 17 bytes and its line at most 670
pub record Along (b : Bench) (file : List ℕ) (w : Walk) (g : Gateway) (out₀ : List ℕ) (to₀ : ℕ) (out : List ℕ) (to at left : ℕ)
    (m : Machine) : Type 0 where
  pub same : length out ≡ length out₀
  pub rest : sets out to (flat (command_lines b left (meaning b m) (drop at file))) ≡ sets out₀ to₀ (flat (to_come b file w g))
  pub place : to + length (flat (command_lines b left (meaning b m) (drop at file))) ≡ to₀ + length (flat (to_come b file w g))
  pub room : 17 * to ≤ 670 * at + 255
  pub inside : at ≤ length file
  pub sound : unfit b m ≡ 0

pub along_begun : {b : Bench} {file out : List ℕ} {to : ℕ} {w : Walk} {m : Machine} → Ready (length file) w (length out) to → unfit b m ≡ 0
    → Along b file w (meaning b m) out to out to w.at w.left m
along_begun k u = record { same = refl; rest = refl; place = refl; room = k.room; inside = k.inside; sound = u }

module _ {b : Bench} {file : List ℕ} {w : Walk} {g : Gateway} {out₀ : List ℕ} {to₀ : ℕ} {out : List ℕ} {to at left : ℕ} {m : Machine}
    (a : Along b file w g out₀ to₀ out to at left m) where
  -- one record further: z are the bytes of the packet
  pub along_played : {n : Words} {z then : ℕ} {m' : Machine} {new : List ℕ} {r : ℕ} → left ≡ then + 1 → CommandHere file at n → z ≡ twice n.0
      → A.Plays b (turned b (meaning b m) (drop at file)) m' out to new r → Along b file w g out₀ to₀ new r (at + 5 + z) then m'
  along_played {n} {z} {then} {m'} {new} {r} some h q p =
      let o = turned b (meaning b m) (drop at file) in
      let ls : List (List ℕ) = command_lines b left (meaning b m) (drop at file) in
      let ms : List (List ℕ) = command_lines b then (meaning b m') (drop (at + 5 + z) file) in
      let here = command_there file at h in
      let k : o.line ∷ ms ≡ ls =
      ap (λ (g : Gateway). o.line ∷ command_lines b then g (drop (at + 5 + z) file)) p.after
      ∙ sym (command_on b (meaning b m) file at left then z some h.whole (omega (arith, q, h.size))) in
      let f : flat ls ≡ o.line ++ flat ms = sym (flat_more k) in
      record {
        same = put_length p.line ∙ a.same;
        rest = put_turn (flat ls) (flat ms) p.line f a.rest;
        place = omega (arith, ap length f ∙ length-append o.line (flat ms), p.line.next, a.place);
        room = omega (arith, a.room, p.line.next, p.room, here.facts.low, q);
        inside = omega (arith, here.inside, q);
        sound = p.sound;
      }

  module _ (k : Ready (length file) w (length out₀) to₀) where
    -- there is room for a command's line, and for `broken`
    pub along_room : to + longest_line ≤ length out
    along_room = omega (arith, a.room, a.inside, a.same, k.short, k.long)

    -- the end: the last line, or none
    along_end : (line : List ℕ) {new : List ℕ} {r : ℕ} → flat (command_lines b left (meaning b m) (drop at file)) ≡ line
        → Put out to line new r → length line ≤ longest_line → Plays b file w g out₀ to₀ new r
    along_end line e p l = record {
      text = record { next = omega (arith, p.next, ap length e, a.place); wrote = p.wrote ∙ ap (sets out to) (sym e) ∙ a.rest };
      fits = omega (arith, p.next, l, along_room, a.same);
    }

    along_broken : {new : List ℕ} {r : ℕ} → command_lines b left (meaning b m) (drop at file) ≡ broken_line ∷ [] → Put out to broken_line new r
        → Plays b file w g out₀ to₀ new r
    unfolding flat
    along_broken e p = along_end broken_line (ap flat e ∙ append-nil broken_line) p (omega (arith, length_broken))

    -- no whole record where one is to come; bytes left; neither
    pub along_short : {new : List ℕ} {r : ℕ} → 0 < left → command_whole (drop at file) ≡ false → Put out to broken_line new r
        → Plays b file w g out₀ to₀ new r
    along_short some e p = along_broken (command_off b (meaning b m) (drop at file) left some e) p

    pub along_left : {new : List ℕ} {r : ℕ} → left ≡ 0 → (at ≡ length file → ⊥) → Put out to broken_line new r
        → Plays b file w g out₀ to₀ new r
    along_left none e p =
        along_broken (commands_left b (meaning b m) (drop at file) left none (simp length-drop (omega (arith, a.inside, e)))) p

    pub along_clean : left ≡ 0 → at ≡ length file → Plays b file w g out₀ to₀ out to
    unfolding flat
    along_clean none e =
        along_end [] (ap flat (commands_end b (meaning b m) (drop at file) left none (simp length-drop (omega (arith, e)))))
        (record { next = omega arith; wrote = refl }) (omega arith)
