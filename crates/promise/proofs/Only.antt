-- Any two outcomes that a promise permits are equal: state, store to the last word, plaque memory, reply and output.
-- Assumes nothing.
use Rattle.units.proofs.Common.{sym, ◌∙◌, ◌≡◌, refl, ap, inl, inr, ◌⊎◌, true, false, Bool, cond, not, ◌&&◌, List, [], ◌∷◌, ◌++◌, ℕ, ◌≤◌}
use Rattle.units.proofs.Common.{◌-◌, ◌+◌, ◌<◌, suc, ◌*◌, zero, arith, eqb, leb, length, drop, get_or, take, length-drop, replicate}
use Rattle.units.proofs.Common.{take-append-drop, length-take-le, take_all, slice, ext_get_or, take-take, le-leb, not-true, eqb-true}
use Rattle.units.proofs.Common.{leb-true, every, within, and_true}
use native.Mathlib.Nat.{zero-mul}
use Rattle.units.specs.declared.Words.{Words}
use Rattle.meaning.proofs.Terms.{Bench, hub, is_reader, is_node, Gateway, empty, plaque, never, last, on, Call, Said, refused, answered}
use Rattle.meaning.proofs.Terms.{queued, done, quiet, handed, Outcome}
use Rattle.meaning.specs.Gateway as M
use Rattle.meaning.specs.Gateway.{Report}
use Rattle.demands.specs.Sound.{Sound}
use Rattle.machine.proofs.Terms.{fresh_reader, Machine, machine, meaning, node_slot, nodes_in, readers_of, reader_of, field_of, mode_of, report_of}
use Rattle.machine.proofs.Terms.{region_of, plain, zeros, plaque_ok, reading_ok, report_ok, name_ok}
use Rattle.state.specs.declared.reader.Plaque as P
use Rattle.state.specs.declared.reader.Reading as D
use Rattle.state.specs.declared.reader.Report as T
use Rattle.state.specs.declared.reader.Reader.{Reader}
use Rattle.state.specs.declared.node.Node.{Node}
use Rattle.state.specs.declared.Name.{Name}
use Rattle.state.specs.declared.State.{State}
use Rattle.std.proofs.lemmas.Bool.{cases_lt}
use Rattle.state.proofs.Lists.{both}
use Rattle.machine.proofs.Read.{one_content}
use Rattle.promise.specs.Obeyed as O
use Rattle.promise.specs.Obeyed.{said_of, is_refusal, Does, Obeyed}
use Rattle.promise.specs.declared.Reply.{Reply}
use Rattle.promise.specs.declared.Handout.{Handout}
use Rattle.promise.proofs.Parts.{Parts, parts}
use Rattle.promise.proofs.Nodes.{many}
use Rattle.promise.proofs.Tables.{reader_node, reader_slot, node_hub, reader_at, node_at}
use Rattle.promise.proofs.Readers.{ReaderParts, reader_parts, reader_in_order}

-- all 0: fixed by the length
zeros_are : (l : List ℕ) → zeros l ≡ true → l ≡ replicate (length l) 0
unfolding every
zeros_are [] e = refl
zeros_are (x ∷ l) e =
    let p = and_true (eqb x 0) (zeros l) e in cc (eqb-true x 0 p.0, zeros_are l p.1)

zeros_same : (l k : List ℕ) → zeros l ≡ true → zeros k ≡ true → length l ≡ length k → l ≡ k
zeros_same l k p q e = cc (zeros_are l p, zeros_are k q)

-- ---- values whose parts are equal
name_by : {n k : ℕ} {l m : List ℕ} → n ≡ k → l ≡ m → ◌≡◌ {A = Name} (record { length = record { 0 = n }; bytes = l })
    (record { length = record { 0 = k }; bytes = m })
name_by n l = cc

plaque_by : {s t : Bool} {i j : List ℕ} {n k : ℕ} → s ≡ t → i ≡ j → n ≡ k
    → ◌≡◌ {A = P.Plaque} (record { present = s; id = i; length = record { 0 = n } })
    (record { present = t; id = j; length = record { 0 = k } })
plaque_by s i n = cc

report_by : {s t : Bool} {i j : List ℕ} {n k : ℕ} → s ≡ t → i ≡ j → n ≡ k
    → ◌≡◌ {A = T.Report} (record { kept = s; id = i; clock = n }) (record { kept = t; id = j; clock = k })
report_by s i n = cc

reading_by : {s t n k d e : ℕ} → s ≡ t → n ≡ k → d ≡ e
    → ◌≡◌ {A = D.Reading} (record { start = s; size = record { 0 = n }; delay = d })
    (record { start = t; size = record { 0 = k }; delay = e })
reading_by s n d = cc

reader_by : {p q : P.Plaque} {r s : D.Reading} {t u : T.Report} → p ≡ q → r ≡ s → t ≡ u
    → ◌≡◌ {A = Reader} (record { plaque = p; reading = r; report = t }) (record { plaque = q; reading = s; report = u })
reader_by p r t = cc

state_by : {n k : Name} {r q : List Reader} {l j : List Node} {g h : List Words} → n ≡ k → r ≡ q → l ≡ j → g ≡ h
    → ◌≡◌ {A = State} (record { name = n; readers = r; nodes = l; held = g }) (record { name = k; readers = q; nodes = j; held = h })
state_by n r l h = cc

machine_by : {s t : State} {u v x y : List ℕ} → s ≡ t → u ≡ v → x ≡ y → machine s u x ≡ machine t v y
machine_by s u x = cc

-- ---- the name
name_same : (s t : Name) → name_ok s ≡ true → name_ok t ≡ true → length s.bytes ≡ 64 → length t.bytes ≡ 64
    → take s.length.0 s.bytes ≡ take t.length.0 t.bytes → s ≡ t
unfolding name_ok
name_same s t p q a c e =
    let i = s.length.0 in
    let j = t.length.0 in
    let u = and_true (leb i 64) _ p in
    let v = and_true (leb j 64) _ q in
    let x : i ≤ 64 = leb-true _ _ u.0 in
    let y : j ≤ 64 = leb-true _ _ v.0 in
    let n : i ≡ j = sym (length-take-le i s.bytes (omega arith)) ∙ ap length e ∙ length-take-le j t.bytes (omega arith) in
    let k : length (drop i s.bytes) ≡ length (drop j t.bytes) = simp length-drop (omega arith) in
    let d : drop i s.bytes ≡ drop j t.bytes = zeros_same _ _ u.1 v.1 k in
    name_by n (cc (take-append-drop i s.bytes, take-append-drop j t.bytes))

-- ---- a reader: its parts are fixed by what they mean and the zeros
pub clash : {A : Type 0} → ◌≡◌ {A = ℕ} 0 1 → A
clash z = absurd (omega arith)

plaque_same : (b : Bench) (p q : P.Plaque) → plaque_ok b p ≡ true → plaque_ok b q ≡ true → field_of p ≡ field_of q → p ≡ q
unfolding field_of plaque_ok
plaque_same b p q f g e =
    let u = and_true (eqb (length p.id) 8) _ f in
    let v = and_true (eqb (length q.id) 8) _ g in
    let l : length p.id ≡ length q.id = eqb-true _ _ u.0 ∙ sym (eqb-true _ _ v.0) in
    by_presence p.present refl q.present refl u.1 v.1 l e
  where
    by_presence : (s : Bool) → p.present ≡ s → (t : Bool) → q.present ≡ t
        → cond s (within 1 b.region p.length.0) (eqb p.length.0 0 && zeros p.id) ≡ true
        → cond t (within 1 b.region q.length.0) (eqb q.length.0 0 && zeros q.id) ≡ true → length p.id ≡ length q.id
        → cond s (plaque p.id p.length.0) empty ≡ cond t (plaque q.id q.length.0) empty → p ≡ q
    by_presence true a true c x y l e = plaque_by (a ∙ sym c) (cc) (cc)
    by_presence true a false c x y l e = clash (cc)
    by_presence false a true c x y l e = clash (cc)
    by_presence false a false c x y l e =
        let u = and_true (eqb p.length.0 0) _ x in
        let v = and_true (eqb q.length.0 0) _ y in
        plaque_by (a ∙ sym c) (zeros_same p.id q.id u.1 v.1 l) (eqb-true _ _ u.0 ∙ sym (eqb-true _ _ v.0))

report_same : (p q : T.Report) → report_ok p ≡ true → report_ok q ≡ true → report_of p ≡ report_of q → p ≡ q
unfolding report_of report_ok
report_same p q f g e =
    let u = and_true (eqb (length p.id) 8) _ f in
    let v = and_true (eqb (length q.id) 8) _ g in
    let l : length p.id ≡ length q.id = eqb-true _ _ u.0 ∙ sym (eqb-true _ _ v.0) in
    by_kept p.kept refl q.kept refl u.1 v.1 l e
  where
    by_kept : (s : Bool) → p.kept ≡ s → (t : Bool) → q.kept ≡ t → cond s true (zeros p.id && eqb p.clock 0) ≡ true
        → cond t true (zeros q.id && eqb q.clock 0) ≡ true → length p.id ≡ length q.id
        → cond s (last p.id p.clock) never ≡ cond t (last q.id q.clock) never → p ≡ q
    by_kept true a true c x y l e = report_by (a ∙ sym c) (cc) (cc)
    by_kept true a false c x y l e = clash (cc)
    by_kept false a true c x y l e = clash (cc)
    by_kept false a false c x y l e =
        let u = and_true (zeros p.id) _ x in
        let v = and_true (zeros q.id) _ y in
        report_by (a ∙ sym c) (zeros_same p.id q.id u.0 v.0 l) (eqb-true _ _ u.1 ∙ sym (eqb-true _ _ v.1))

record SameMode (r s : D.Reading) (p q : T.Report) : Type 0 where
  reading : r ≡ s
  report : report_of p ≡ report_of q

mode_same : (b : Bench) (r s : D.Reading) (p q : T.Report) → reading_ok b r p.kept ≡ true → reading_ok b s q.kept ≡ true
    → mode_of r p ≡ mode_of s q → SameMode r s p q
unfolding mode_of reading_ok report_of
mode_same b r s p q f g e = by_size (eqb r.size.0 0) refl (eqb s.size.0 0) refl f g e
  where
    unkept : (p q : T.Report) → not p.kept ≡ true → not q.kept ≡ true → report_of p ≡ report_of q
    unkept p q x y = rw (not-true p.kept x, not-true q.kept y)

    by_size : (t : Bool) → eqb r.size.0 0 ≡ t → (u : Bool) → eqb s.size.0 0 ≡ u
        → cond t (eqb r.start 0 && (eqb r.delay 0 && not p.kept))
        (leb r.size.0 255 && (leb (r.start + r.size.0) b.region && leb r.delay 60)) ≡ true
        → cond u (eqb s.start 0 && (eqb s.delay 0 && not q.kept))
        (leb s.size.0 255 && (leb (s.start + s.size.0) b.region && leb s.delay 60)) ≡ true
        → cond t M.off (on r.start r.size.0 r.delay (report_of p)) ≡ cond u M.off
        (on s.start s.size.0 s.delay (report_of q))
        → SameMode r s p q
    by_size true a true c x y e =
        let x₁ = and_true (eqb r.start 0) _ x in
        let y₁ = and_true (eqb s.start 0) _ y in
        let x₂ = and_true (eqb r.delay 0) _ x₁.1 in
        let y₂ = and_true (eqb s.delay 0) _ y₁.1 in
        record {
          reading = reading_by (eqb-true _ _ x₁.0 ∙ sym (eqb-true _ _ y₁.0)) (eqb-true _ _ a ∙ sym (eqb-true _ _ c))
              (eqb-true _ _ x₂.0 ∙ sym (eqb-true _ _ y₂.0));
          report = unkept p q x₂.1 y₂.1;
        }
    by_size true a false c x y e = clash (cc)
    by_size false a true c x y e = clash (cc)
    by_size false a false c x y e = record { reading = reading_by (cc) (cc) (cc); report = cc }

reader_same : (b : Bench) (x y : Reader) → ReaderParts b x → ReaderParts b y → field_of x.plaque ≡ field_of y.plaque
    → mode_of x.reading x.report ≡ mode_of y.reading y.report → x ≡ y
reader_same b x y f g e h =
    let p = plaque_same b x.plaque y.plaque f.plaque g.plaque e in
    let k = mode_same b x.reading y.reading x.report y.report f.reading g.reading h in
    let r = report_same x.report y.report f.report g.report k.report in
    reader_by p k.reading r

-- ---- the plaque memory: it is its regions, one after the other
part_end : (l : List ℕ) (f t : ℕ) → f ≤ t → take f l ++ slice f t l ≡ take t l
part_end l f t h = ap (λ (k : List ℕ). k ++ drop f (take t l)) (sym (take-take f t l h)) ∙ take-append-drop f (take t l)

rows_same : (b : Bench) (l k : List ℕ) → ((n : ℕ) → region_of b l n ≡ region_of b k n) → (n : ℕ) → take (n * b.region) l ≡ take
    (n * b.region) k
unfolding region_of
rows_same b l k h zero = let e : 0 * b.region ≡ 0 = zero-mul b.region in rw e refl
rows_same b l k h (suc n) =
    let f = n * b.region in
    let t = suc n * b.region in
    let i : suc n - 1 ≡ n = omega arith in
    let o : f ≤ t = omega arith in
    let e : slice f t l ≡ slice f t k = rw i at (h (suc n)) in
    cc (part_end l f t o, part_end k f t o, rows_same b l k h n)

memory_same : (b : Bench) (l k : List ℕ) → length l ≡ b.readers * b.region → length k ≡ b.readers * b.region
    → ((n : ℕ) → region_of b l n ≡ region_of b k n) → l ≡ k
memory_same b l k p q h =
    sym (take_all (b.readers * b.region) l (omega arith)) ∙ rows_same b l k h b.readers ∙ take_all (b.readers * b.region) k
    (omega arith)

-- ---- two machines with one meaning
-- every index is a reader's, and a node's
index_reader : (b : Bench) (i : ℕ) → i < b.readers → is_reader b (i + 1) ≡ true
index_reader b i h = both (le-leb 1 (i + 1) (omega arith)) (le-leb (i + 1) b.readers (omega arith))

record Numbered (b : Bench) (i : ℕ) : Type 0 where
  node : ℕ
  is : is_node b node ≡ true
  slot : node_slot b node ≡ i

index_node : (b : Bench) → Sound b → (i : ℕ) → i < b.readers + 1 → Numbered b i
index_node b ok i h = by_place (cases_lt i b.readers)
  where
    by_place : (i < b.readers) ⊎ (b.readers ≤ i) → Numbered b i
    by_place (inl l) =
        let r = index_reader b i l in
        record { node = i + 1; is = reader_node b (i + 1) r; slot = reader_slot b ok (i + 1) r ∙ omega arith }
    by_place (inr l) = record { node = hub; is = node_hub b; slot = omega arith }

module _ (b : Bench) (ok : Sound b) (m n : Machine) (p : Parts b m) (q : Parts b n) (e : meaning b m ≡ meaning b n) where
  region_each : (k : ℕ) → region_of b m.memory k ≡ region_of b n.memory k
  unfolding meaning readers_of reader_of
  region_each k = ap (λ (g : Gateway). (g.reader k).region) e

  reader_each : (i : ℕ) → i < b.readers → get_or m.state.readers i fresh_reader ≡ get_or n.state.readers i fresh_reader
  unfolding reader_of
  reader_each i h =
      let r = index_reader b i h in
      let s : i + 1 - 1 ≡ i = omega arith in
      let x : Reader = get_or m.state.readers (i + 1 - 1) fresh_reader in
      let y : Reader = get_or n.state.readers (i + 1 - 1) fresh_reader in
      let z : reader_of x (region_of b m.memory (i + 1)) ≡ reader_of y (region_of b n.memory (i + 1)) =
      sym (reader_at b m (i + 1) r) ∙ ap (λ (g : Gateway). g.reader (i + 1)) e ∙ reader_at b n (i + 1) r in
      let w : x ≡ y =
      reader_same b x y (reader_parts b x (reader_in_order b m (i + 1) r x refl p))
      (reader_parts b y (reader_in_order b n (i + 1) r y refl q))
      (ap (λ (v : M.Reader). v.field) z) (ap (λ (v : M.Reader). v.mode) z) in
      rw s at w

  node_each : (i : ℕ) → i < b.readers + 1
      → get_or (nodes_in m.store m.state.nodes) i plain ≡ get_or (nodes_in n.store n.state.nodes) i plain
  node_each i h =
      let j = index_node b ok i h in
      rw (← j.slot) (sym (node_at b m j.node j.is) ∙ ap (λ (g : Gateway). g.nodes j.node) e ∙ node_at b n j.node j.is)

  nodes_same : nodes_in m.store m.state.nodes ≡ nodes_in n.store n.state.nodes
  nodes_same = ext_get_or plain _ _ (many b m p ∙ sym (many b n q)) (λ i h. node_each i (omega (arith, many b m p)))

  -- they are the same, to the last word
  pub same_means : m ≡ n
  unfolding meaning
  same_means =
      let o = one_content b m.store n.store m.state.nodes n.state.nodes m.state.held n.state.held p.store
      q.store
      p.lists q.lists nodes_same in
      machine_by
      (state_by (name_same m.state.name n.state.name p.name q.name p.wide q.wide (ap (λ (g : Gateway). g.name) e))
      (ext_get_or fresh_reader m.state.readers n.state.readers (p.each_reader ∙ sym q.each_reader)
      (λ i h. reader_each i (omega (arith, p.each_reader))))
      o.nodes o.helds)
      o.stores (memory_same b m.memory n.memory p.memory q.memory region_each)

module _ (b : Bench) (ok : Sound b) where
  pub only_does : (o : Outcome) (m : Machine) (s₁ s₂ : Said) (m₁ m₂ : Machine) → Does b o m s₁ m₁ → Does b o m s₂ m₂ → (s₁ ≡ s₂) × (m₁ ≡ m₂)
  only_does o m s₁ s₂ m₁ m₂ p q = let e : s₁ ≡ s₂ = p.says ∙ sym q.says in (e, by_said (is_refusal s₁) refl e)
    where
      by_said : (t : Bool) → is_refusal s₁ ≡ t → s₁ ≡ s₂ → m₁ ≡ m₂
      by_said true f e = p.refusal f ∙ sym (q.refusal (ap is_refusal (sym e) ∙ f))
      by_said false f e =
          let h : is_refusal s₂ ≡ false = ap is_refusal (sym e) ∙ f in
          same_means b ok m₁ m₂ (parts b m₁ (p.sound f)) (parts b m₂ (q.sound h)) (p.means f ∙ sym (q.means h))

  pub only : (c : Call) (m : Machine) (s₁ s₂ : Said) (m₁ m₂ : Machine) → Obeyed b c m s₁ m₁ → Obeyed b c m s₂ m₂ → (s₁ ≡ s₂) × (m₁ ≡ m₂)
  only c m s₁ s₂ m₁ m₂ p q = only_does _ m s₁ s₂ m₁ m₂ p q

  -- the code's reply is fixed by what is said
  unspoken : Said → Reply
  unspoken (refused k) = Reply.Refused k
  unspoken (answered done) = Reply.Done
  unspoken (answered quiet) = Reply.Quiet
  unspoken (answered (handed ws h)) = Reply.Done
  unspoken queued = Reply.Queued

  back : (r : Reply) → unspoken (said_of r) ≡ r
  unfolding said_of unspoken
  back (Reply.Refused k) = refl
  back Reply.Done = refl
  back Reply.Quiet = refl
  back Reply.Queued = refl

  pub only_reply : (c : Call) (m : Machine) (r₁ r₂ : Reply) (m₁ m₂ : Machine) → Obeyed b c m (said_of r₁) m₁ → Obeyed b c m (said_of r₂) m₂
      → (r₁ ≡ r₂) × (m₁ ≡ m₂)
  only_reply c m r₁ r₂ m₁ m₂ p q =
      let o = only c m (said_of r₁) (said_of r₂) m₁ m₂ p q in (sym (back r₁) ∙ ap unspoken o.0 ∙ back r₂, o.1)

  -- collect: one reply, one content of the lent output
  pub only_collect : (c : Call) (m : Machine) (r₁ r₂ : Handout) (out o₁ o₂ : List ℕ) → O.Collects b c m r₁ out o₁ → O.Collects b c m r₂ out
      o₂
      → (r₁ ≡ r₂) × (o₁ ≡ o₂)
  only_collect c m r₁ r₂ out o₁ o₂ p q = (p.reply ∙ sym q.reply, p.output ∙ sym q.output)
