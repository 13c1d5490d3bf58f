-- A record at a place of the file: it stands inside, its parts as the code takes them are the definition's, and what is made of them.
-- Assumes nothing.
use Rattle.units.proofs.Common.{sym, ◌∙◌, ◌≡◌, refl, ap, List, ℕ, ◌≤◌, ◌-◌, ◌+◌, ◌*◌, arith, length, drop, take, drop-drop, packed}
use Rattle.units.proofs.Common.{length-drop, length-take-le, take_at, length_packed, length-sets, sets}
use Rattle.meaning.proofs.Terms.{Bench, Gateway, arrive, step, full, Said}
use Rattle.listing.specs.Records.{plaque_node, plaque_length, plaque_id, plaque_bytes, command_packet, command_length, command_stamp}
use Rattle.listing.specs.Listing.{arrived}
use Rattle.units.specs.Count.{twice}
use Rattle.units.specs.declared.Bytes.{Bytes}
use Rattle.units.specs.declared.Words.{Words}
use Rattle.units.specs.declared.stamp.Stamp.{Stamp}
use Rattle.units.specs.declared.Form.TheVariants.{Register}
use Rattle.units.proofs.PackingLaws.{sets_fits}
use Rattle.command.specs.Judged.{judged_command}
use Rattle.command.specs.declared.Judged.{Judged}
use Rattle.machine.proofs.Terms.{Machine, meaning, unfit}
use Rattle.promise.specs.Obeyed.{Does}
use Rattle.promise.proofs.Chains.{stepped}
use Rattle.promise.proofs.Promises.{by_step}
use Rattle.runfile.specs.Records.{command_of}
use Rattle.std.proofs.Common.{Some}
use Rattle.runfile.proofs.Records.{PlaqueFacts, plaque_facts, CommandFacts, command_facts, command_read}
use Rattle.hearing.specs.Here.{longest, PlaqueHere, CommandHere, Arrives, Hears}

-- ---- a part of the file, as the code takes it
part : (file : List ℕ) (at skip a z n : ℕ) → at + skip ≡ a → z - a ≡ n → take (z - a) (drop a file) ≡ take n (drop skip (drop at file))
part file at skip a z n e f =
    ap (λ (k : ℕ). take k (drop a file)) f ∙ ap (take n) (ap (λ (k : ℕ). drop k file) (sym e) ∙ sym (drop-drop skip at file))

pub words_at : (file : List ℕ) (at n : ℕ) → n ≡ command_length (drop at file)
    → packed (take (at + 5 + 2 * n - (at + 5)) (drop (at + 5) file)) ≡ command_packet (drop at file)
words_at file at n e = ap packed (part file at 5 (at + 5) (at + 5 + 2 * n) (2 * command_length (drop at file)) refl (omega (arith, e)))

module _ (b : Bench) (g : Gateway) (file : List ℕ) (at : ℕ) where
  pub arrived_at : (n l : ℕ) → n ≡ plaque_node (drop at file) → l ≡ plaque_length (drop at file)
      → (step b g (arrive n (take (at + 11 - (at + 3)) (drop (at + 3) file)) (take (at + 11 + l - (at + 11)) (drop (at + 11) file)))).next
      ≡ arrived b g (drop at file)
  unfolding arrived
  arrived_at n l e f =
      let bs : List ℕ = drop at file in
      let i : take (at + 11 - (at + 3)) (drop (at + 3) file) ≡ plaque_id bs = part file at 3 (at + 3) (at + 11) 8 refl (omega arith) in
      let j : take (at + 11 + l - (at + 11)) (drop (at + 11) file) ≡ plaque_bytes bs =
      part file at 11 (at + 11) (at + 11 + l) (plaque_length bs) refl (omega (arith, f)) in
      rw (e, i, j)

-- ---- records at a place
module _ (file : List ℕ) (at : ℕ) where
  pub record PlaqueThere (n l : ℕ) : Type 0 where
    pub facts : PlaqueFacts full (drop at file) n l
    pub inside : at + 11 + l ≤ length file

  pub plaque_there : {n : ℕ} {l : Bytes} → PlaqueHere file at n l → PlaqueThere n l.0
  plaque_there {n} {l} h =
      let f : PlaqueFacts full (drop at file) n l.0 =
      rw (h.node, h.size) (plaque_facts full (drop at file) h.whole) in
      record { facts = f; inside = omega (arith, f.low, f.there, length-drop at file) }

  pub record CommandThere (n : ℕ) : Type 0 where
    pub facts : CommandFacts (drop at file) n
    pub inside : at + 5 + 2 * n ≤ length file

  pub command_there : {n : Words} → CommandHere file at n → CommandThere n.0
  command_there {n} h =
      let f : CommandFacts (drop at file) n.0 = rw h.size (command_facts (drop at file) h.whole) in
      record { facts = f; inside = omega (arith, f.low, f.there, length-drop at file) }

  pub command_here : {n : Words} → Some n ≡ command_of (drop at file) → CommandHere file at n
  command_here e = let r = command_read (drop at file) e in record { size = r.size; whole = r.whole }

  -- the plaque arrived
  pub arrives_at : {b : Bench} {m m' : Machine} {said : Said} {n : ℕ} {l : Bytes} → PlaqueHere file at n l → unfit b m ≡ 0
      → Does b (step b (meaning b m) (arrive n (take (at + 11 - (at + 3)) (drop (at + 3) file))
      (take (at + 11 + l.0 - (at + 11)) (drop (at + 11) file)))) m said m'
      → Arrives b (meaning b m) (drop at file) m'
  arrives_at {b} {m} {m'} {said} {n} {l} h u d =
      let t = stepped b _ m said m' u (by_step b m _ u refl d) in
      record { means = t.means ∙ arrived_at b (meaning b m) file at n l.0 h.node h.size; sound = t.fit }

  -- the words of a command's packet in front of those lent, as the code packs them
  pub record Packs (n : ℕ) (words : List ℕ) : Type 0 where
    pub packet : take n words ≡ command_packet (drop at file)
    pub long : length words ≡ longest
    pub count : length (take n words) ≡ n

  pub packs : (old : List ℕ) {n : Words} {k : ℕ} {new : List ℕ} → CommandHere file at n → k ≡ twice n.0
      → new ≡ sets old 0 (packed (take (at + 5 + k - (at + 5)) (drop (at + 5) file))) → length old ≡ longest → Packs n.0 new
  packs old {n} {k} {new} h q d l =
      let t = command_there h in
      let p : List ℕ = take (at + 5 + 2 * n.0 - (at + 5)) (drop (at + 5) file) in
      let e : new ≡ sets old 0 (packed p) =
      d ∙ ap (λ (k : ℕ). sets old 0 (packed (take (at + 5 + k - (at + 5)) (drop (at + 5) file)))) q in
      let z : at + 5 + 2 * n.0 - (at + 5) ≡ 2 * n.0 = omega arith in
      let k : length p ≡ 2 * n.0 =
      rw z (length-take-le (2 * n.0) (drop (at + 5) file) (simp length-drop (omega (arith, t.inside)))) in
      let c : length (packed p) ≡ n.0 = omega (arith, length_packed p, k) in
      let w : take n.0 new ≡ packed p =
      ap (take n.0) (e ∙ sets_fits (packed p) old (omega (arith, c, l, t.facts.high))) ∙ take_at (packed p) _ n.0 c in
      record {
        packet = w ∙ words_at file at n.0 h.size;
        long = ap length e ∙ length-sets old 0 (packed p) ∙ l;
        count = ap length w ∙ c;
      }

  pub hears : {n : Words} {words : List ℕ} {t : Stamp} {j : Judged} → Packs n.0 words → t ≡ command_stamp (drop at file)
      → j ≡ judged_command full t Register (take n.0 words)
      → Hears file at n words (record { stamp = t; refusal = j.refusal; kind = j.kind; what = j.what })
  unfolding judged_command
  hears p s e = record {
    stamp = s;
    packet = p.packet;
    long = p.long;
    refusal = ap (λ (j : Judged). j.refusal) e;
    kind = ap (λ (j : Judged). j.kind) e;
    what = ap (λ (j : Judged). j.what) e;
  }
