-- Commands for a reader: each way that the code returns is the definition's local outcome.
-- Assumes nothing.
use Rattle.units.proofs.Common.{sym, ◌∙◌, ◌≡◌, refl, ap, subst, true, false, Bool, cond, not, ◌&&◌, List, [], ◌∷◌, ◌++◌, ℕ, ◌≤◌, ◌-◌, ◌+◌}
use Rattle.units.proofs.Common.{◌<◌, ◌%◌, min, arith, eqb, leb, ltb, length, drop, take, replicate, length-take, paste, get_or-take}
use Rattle.units.proofs.Common.{take-take, eq-eqb, le-leb, eqb-true, lt-leb, ltb-false, ltb-true, every, bytes_of, yes_cond, no_cond}
use Rattle.units.specs.Packing.{byte_at}
use Rattle.units.specs.declared.Words.{Words}
use Rattle.units.specs.declared.stamp.Stamp.{Stamp}
use Rattle.meaning.proofs.Terms.{full, response_body, well_formed, amount_wrong, row_of, carried, plaque, empty, Field, Local, answer}
use Rattle.meaning.proofs.Terms.{tag_not_found, obeyed, tagged, ranged}
use Rattle.meaning.specs.Gateway as M
use Rattle.meaning.specs.Call.{started}
use Rattle.meaning.specs.declared.table.OnPlaque.{OnPlaque}
use Rattle.meaning.specs.declared.table.OnPlaque.TheVariants.{Fill, Read, Write, ReadId, Search}
use Rattle.meaning.specs.declared.table.Kind.{Kind}
use Rattle.meaning.specs.declared.table.Kind.TheVariants as K
use Rattle.meaning.specs.declared.packet.Command.{Command}
use Rattle.meaning.specs.declared.packet.Response.{Response}
use Rattle.machine.proofs.Terms.{no_report, reader_of, field_of, mode_of, report_of, reader_ok, reading_ok, report_ok}
use Rattle.state.specs.declared.reader.Reading.{Reading}
use Rattle.state.specs.declared.reader.Reader.{Reader}
use Rattle.state.proofs.Lists.{both}
use Rattle.promise.proofs.Tables.{reader_node}
use Rattle.promise.proofs.Readers.{with_reading, reader_parts, reader_whole, plaque_bytes, id_long}
use Rattle.answers.specs.Ordered.{load_of, Ready}
use Rattle.answers.specs.Say.{good, Sayable, Says}
use Rattle.answers.specs.Decided.{bare, told, Formed}
use Rattle.answers.specs.declared.Verdict.TheVariants as W
use Rattle.answers.proofs.Cuts.{cut}
use Rattle.answers.proofs.Saying.{good_sayable}
use Rattle.decided.specs.Decided.{altered, Suits, Readable, Servable, Serves, Obeys}
use Rattle.decided.specs.declared.Change.{Change}
use Rattle.decided.specs.declared.Change.TheVariants as C
use Rattle.decided.specs.declared.Decided.{Decided}

-- ---- what the code hands back
abbrev pub refusal : Reader → ℕ → Decided
refusal x k = record { after = x; change = C.Kept; words = record { 0 = 0 }; verdict = W.Refused k }

abbrev pub reply : Reader → Change → Words → Decided
reply y change k = record { after = y; change = change; words = k; verdict = W.Due }

-- ---- a refusal, and an answer that is due: once for all calls
module _ {n : ℕ} {l : Local M.Reader} {ws region out : List ℕ} {d : Decided} where
  pub serves_refused : {x : Reader} {k : ℕ} → reader_ok full x ≡ true → d ≡ refusal x k → l ≡ Local.refuse k
      → Serves full n l ws region d out
  unfolding told Suits Formed
  serves_refused {x} {k} o e q =
      subst (λ (d : Decided). Serves full n l ws region d out) (sym e)
      (record { same = sym q; settles = record { in_order = o; inside = omega arith; formed = tt }; suits = tt })

  pub serves_due : {y : Reader} {change : Change} {k : Words} {r : Response} {bs : List ℕ} → reader_ok full y ≡ true → d ≡ reply y change k
      → r.node ≡ n → Says full r bs k.0 out → Suits change ws (length region)
      → l ≡ Local.due (reader_of y (altered change ws region)) (response_body r bs) → Serves full n l ws region d out
  unfolding told Formed
  serves_due {y} {change} {k} {r} {bs} o e node s f q =
      subst (λ (d : Decided). Serves full n l ws region d out) (sym e)
      (record {
        same = ap (Local.due (reader_of y (altered change ws region))) s.words ∙ sym q;
        settles = record {
          in_order = o;
          inside = s.inside;
          formed = ap (λ (i : ℕ). well_formed full i (take k.0 out)) (sym node) ∙ s.formed;
        };
        suits = f;
      })

  -- .. without an error
  pub serves_good : {y : Reader} {change : Change} {k : Words} {r : Response} {bs : List ℕ} {t : Stamp} {count echo : ℕ}
      → reader_ok full y ≡ true → d ≡ reply y change k → r ≡ good count n t echo → Says full r bs k.0 out
      → Suits change ws (length region)
      → l ≡ Local.due (reader_of y (altered change ws region)) (answer n (bare count) t echo bs) → Serves full n l ws region d out
  unfolding answer
  serves_good {y} {change} {k} {r} {bs} o e g s f q =
      serves_due o e (ap (λ (r : Response). r.node) g) s f
      (q ∙ ap (λ (r : Response). Local.due (reader_of y (altered change ws region)) (response_body r bs)) (sym g))

-- ---- what `past` says
pub is_past : {p : Bool} {a b : ℕ} → p ≡ ltb a b → p ≡ true → a < b
is_past e f = ltb-true _ _ (sym e ∙ f)

pub not_past : {p : Bool} {a b : ℕ} → p ≡ ltb a b → p ≡ false → b ≤ a
not_past e f = ltb-false _ _ (sym e ∙ f)

-- ---- of what the code rests on
module _ {n : ℕ} {t : Stamp} {x : Reader} {region room : ℕ} (a : Readable full n t x region room) where
  pub sayable : {r : Response} {echo count : ℕ} → r ≡ good count n t echo → (bytes : ℕ) → bytes ≤ 255 → Sayable full r bytes room
  sayable e bytes h = good_sayable e (reader_node full n a.reader) a.stamp bytes h a.long

  pub not_found_sayable : (count : ℕ) → Sayable full (record { error = true; echo = 0xFF; count = count; node = n; stamp = t }) 1 room
  unfolding amount_wrong
  not_found_sayable count = record { stamp = a.stamp; node = reader_node full n a.reader; amount = refl; long = a.long }

  pub id_bytes : length x.plaque.id ≡ 8
  id_bytes = id_long full x.plaque (reader_parts full x a.in_order).plaque

  pub id_sayable : {r : Response} {echo count : ℕ} → r ≡ good count n t echo → Sayable full r (length x.plaque.id) room
  id_sayable e = let l = id_bytes in sayable e (length x.plaque.id) (omega arith)

  -- what lies within the plaque lies within the region
  pub in_region : {end : ℕ} → x.plaque.present ≡ true → end ≤ x.plaque.length.0 → end ≤ region
  in_region p h = let q = plaque_bytes full x.plaque (reader_parts full x a.in_order).plaque p in let z = a.whole in omega arith

-- a part of so many bytes at most is short enough to be said
pub part_sayable : {n : ℕ} {t : Stamp} {x : Reader} {region room : ℕ} → Readable full n t x region room → {r : Response} {echo count : ℕ}
    → r ≡ good count n t echo → (start size : ℕ) → size ≤ 255 → (l : List ℕ) → Sayable full r (length (take (start + size - start) l)) room
part_sayable a e start size h l =
    let z : length (take (start + size - start) l) ≡ min (start + size - start) (length l) = length-take (start + size - start) l in
    sayable a e (length (take (start + size - start) l)) (omega arith)

-- a reader that reads on so is in order
turned_ok : (x : Reader) → reader_ok full x ≡ true → (r : Reading) → reading_ok full r false ≡ true
    → reader_ok full (with_reading x r no_report) ≡ true
unfolding report_ok every
turned_ok x o r l = reader_whole full _ (record { plaque = (reader_parts full x o).plaque; reading = l; report = refl })

-- what an accepted 0D asks
abbrev pub asks : Command → Reading
asks c = record { start = c.start; size = record { 0 = c.size }; delay = c.word4 % 256 }

-- .. is within the limits
limits : (c : Command) (ws : List ℕ) → Ready full K.Continuous c ws → reading_ok full (asks c) false ≡ true
unfolding Ready reading_ok
limits c ws h = by_size (eqb c.size 0) refl
  where
    by_size : (z : Bool) → eqb c.size 0 ≡ z → cond z (eqb c.start 0 && (eqb (c.word4 % 256) 0 && not false))
        (leb c.size 255 && (leb (c.start + c.size) full.region && leb (c.word4 % 256) 60)) ≡ true
    by_size true e = let k = h.3 (eqb-true _ _ e) in both (eq-eqb _ _ k.0) (both (eq-eqb (c.word4 % 256) 0 (omega (arith, k.1))) refl)
    by_size false e = both (le-leb _ _ h.0) (both (le-leb _ _ h.2) (le-leb (c.word4 % 256) 60 (omega (arith, h.1))))

-- ---- an accepted command
pub servable_as : {t : Stamp} {k k' : Kind} {m : Command} {ws : List ℕ} {x : Reader} {region room : ℕ} → k ≡ k'
    → Servable full t k m ws x region room → Servable full t k' m ws x region room
servable_as {t} {k} {k'} {m} {ws} {x} {region} {room} e a = subst (λ (k : Kind). Servable full t k m ws x region room) e a

-- with a plaque
pub field : (x : Reader) (region : List ℕ) → x.plaque.present ≡ true
    → (reader_of x region).field ≡ plaque x.plaque.id x.plaque.length.0
unfolding reader_of field_of
field x region p = yes_cond _ p

pub read_sayable : {t : Stamp} {m : Command} {ws : List ℕ} {x : Reader} {region room : ℕ}
    → Servable full t (K.Plaque Read) m ws x region room
    → {r : Response} {count : ℕ} → r ≡ good count m.node t 0x05 → (l : List ℕ)
    → Sayable full r (length (take (m.start + m.size - m.start) l)) room
unfolding Ready
read_sayable {m = m} a g l = part_sayable a.readable g m.start m.size a.ready l

-- a command on the plaque that lies in the field
abbrev pub on_plaque : ℕ → Stamp → Command → List ℕ → Reader → List ℕ → OnPlaque → Field → Local M.Reader
on_plaque count t m ws x region k f = tagged m.node (bare count) t k m (load_of full m ws) (reader_of x region) f

on_plaque_lem : (count : ℕ) (t : Stamp) (m : Command) (ws : List ℕ) (x : Reader) (region : List ℕ) (k : OnPlaque) → x.plaque.present ≡ true
    → obeyed m.node (bare count) t (K.Plaque k) m (load_of full m ws) (reader_of x region)
    ≡ on_plaque count t m ws x region k (plaque x.plaque.id x.plaque.length.0)
unfolding obeyed
on_plaque_lem count t m ws x region k p = ap (on_plaque count t m ws x region k) (field x region p)

module _ (count : ℕ) {t : Stamp} {m : Command} {ws : List ℕ} {x : Reader} {region : List ℕ} {room : ℕ} {d : Decided} {out : List ℕ} where
  pub as_kind : {k k' : Kind} → Servable full t k m ws x (length region) room → k ≡ k' → Obeys full count t k' m ws x region d out
      → Obeys full count t k m ws x region d out
  as_kind a e s = subst (λ (k : Kind). Obeys full count t k m ws x region d out) (sym e) s

  pub none_due : {k : OnPlaque} → Servable full t (K.Plaque k) m ws x (length region) room → x.plaque.present ≡ false → {w : Words}
      → Says full (record { error = true; echo = 0xFF; count = count; node = m.node; stamp = t }) (7 ∷ []) w.0 out
      → d ≡ reply x C.Kept w → Obeys full count t (K.Plaque k) m ws x region d out
  unfolding reader_of field_of tag_not_found altered Suits obeyed tagged
  none_due {k} a p s e =
      serves_due a.readable.in_order e refl s tt
      (ap (on_plaque count t m ws x region k) (no_cond _ p) ∙ each k)
    where
      each : (k : OnPlaque) → on_plaque count t m ws x region k empty ≡ Local.due (reader_of x region) (tag_not_found m.node (bare count) t)
      each Fill = refl
      each Read = refl
      each Write = refl
      each ReadId = refl
      each Search = refl

  -- ---- 04 to 06; `past` is what the code found
  module _ {past : Bool} (e : past ≡ ltb x.plaque.length.0 (m.start + m.size)) where
    pub past_refused : {k : OnPlaque} (l : Local M.Reader)
        → on_plaque count t m ws x region k (plaque x.plaque.id x.plaque.length.0) ≡ ranged m x.plaque.length.0 l
        → Servable full t (K.Plaque k) m ws x (length region) room × (x.plaque.present ≡ true) → past ≡ true → d ≡ refusal x 12
        → Obeys full count t (K.Plaque k) m ws x region d out
    unfolding ranged
    past_refused {k} l r a h w = serves_refused a.0.readable.in_order w
        (on_plaque_lem count t m ws x region k a.1 ∙ r ∙ no_cond _ (lt-leb (m.start + m.size) x.plaque.length.0 (is_past e h)))

    pub fill_due : Servable full t (K.Plaque Fill) m ws x (length region) room × (x.plaque.present ≡ true) → past ≡ false
        → {b : ℕ} {r : Response} {k : Words} → b ≡ byte_at ws 0 → r ≡ good count m.node t 0x04 → Says full r [] k.0 out
        → d ≡ reply x (C.Filled m.start m.size b) k → Obeys full count t (K.Plaque Fill) m ws x region d out
    unfolding reader_of altered load_of Suits Ready tagged ranged
    fill_due a h {b} v g s w =
        let c : ℕ = carried (row_of full m.command) m in
        let z : length (take c (bytes_of ws)) ≡ min c (length (bytes_of ws)) = length-take c (bytes_of ws) in
        let one : 1 ≤ length (take c (bytes_of ws)) = a.0.ready in
        serves_good a.0.readable.in_order w g s (in_region a.0.readable a.1 (not_past e h))
        (on_plaque_lem count t m ws x region Fill a.1 ∙ yes_cond _ (le-leb (m.start + m.size) x.plaque.length.0 (not_past e h))
        ∙ ap (λ (b : ℕ). Local.due (reader_of x (paste region m.start (replicate m.size b) m.size))
        (answer m.node (bare count) t 0x04 []))
        (get_or-take c (bytes_of ws) 0 0 (omega arith) ∙ sym v))

    pub read_due : Servable full t (K.Plaque Read) m ws x (length region) room × (x.plaque.present ≡ true) → past ≡ false
        → {r : Response} {k : Words} → r ≡ good count m.node t 0x05
        → Says full r (take (m.start + m.size - m.start) (drop m.start region)) k.0 out
        → d ≡ reply x C.Kept k → Obeys full count t (K.Plaque Read) m ws x region d out
    unfolding reader_of altered Suits tagged ranged
    read_due a h g s w =
        let i : m.start + m.size ≤ length region = in_region a.0.readable a.1 (not_past e h) in
        serves_good a.0.readable.in_order w g s tt
        (on_plaque_lem count t m ws x region Read a.1 ∙ yes_cond _ (le-leb (m.start + m.size) x.plaque.length.0 (not_past e h))
        ∙ ap (λ (s : List ℕ). Local.due (reader_of x region) (answer m.node (bare count) t 0x05 s))
        (sym (cut region m.start m.size i (m.start + m.size - m.start) (omega arith))))

    pub write_due : Servable full t (K.Plaque Write) m ws x (length region) room × (x.plaque.present ≡ true) → past ≡ false
        → {r : Response} {k : Words} → r ≡ good count m.node t 0x06 → Says full r [] k.0 out
        → d ≡ reply x (C.Written m.start m.size) k → Obeys full count t (K.Plaque Write) m ws x region d out
    unfolding reader_of altered load_of Suits Ready tagged ranged
    write_due a h g s w =
        let c : ℕ = carried (row_of full m.command) m in
        let z : length (take c (bytes_of ws)) ≡ min c (length (bytes_of ws)) = length-take c (bytes_of ws) in
        let came : m.size ≡ length (take c (bytes_of ws)) = a.0.ready.1 in
        serves_good a.0.readable.in_order w g s (in_region a.0.readable a.1 (not_past e h), omega arith)
        (on_plaque_lem count t m ws x region Write a.1 ∙ yes_cond _ (le-leb (m.start + m.size) x.plaque.length.0 (not_past e h))
        ∙ ap (λ (s : List ℕ). Local.due (reader_of x (take m.start region ++ s ++ drop (m.start + m.size) region))
        (answer m.node (bare count) t 0x06 []))
        (take-take m.size c (bytes_of ws) (omega arith)))

  -- ---- 07, 08
  module _ (p : x.plaque.present ≡ true) {r : Response} {k : Words} where
    pub id_due : Servable full t (K.Plaque ReadId) m ws x (length region) room → r ≡ good count m.node t 0x07
        → Says full r x.plaque.id k.0 out → d ≡ reply x C.Kept k → Obeys full count t (K.Plaque ReadId) m ws x region d out
    unfolding altered Suits tagged
    id_due a g s w = serves_good a.readable.in_order w g s tt (on_plaque_lem count t m ws x region ReadId p)

    pub search_due : Servable full t (K.Plaque Search) m ws x (length region) room → r ≡ good count m.node t 0x08
        → Says full r [] k.0 out → d ≡ reply x C.Kept k → Obeys full count t (K.Plaque Search) m ws x region d out
    unfolding altered Suits tagged
    search_due a g s w = serves_good a.readable.in_order w g s tt (on_plaque_lem count t m ws x region Search p)

  -- ---- 0D, 54; y is the reader after
  module _ {r : Response} {k : Words} {y : Reader} where
    pub start_due : Servable full t K.Continuous m ws x (length region) room → r ≡ good count m.node t 0x0D → Says full r [] k.0 out
        → y ≡ with_reading x (asks m) no_report → d ≡ reply y C.Kept k → Obeys full count t K.Continuous m ws x region d out
    unfolding Ready obeyed started reader_of mode_of report_of altered Suits
    start_due a g s z w =
        let h : m.word4 ≤ 60 = a.ready.1 in
        let l : m.word4 ≡ m.word4 % 256 = omega arith in
        serves_good (turned_ok x a.readable.in_order (asks m) (limits m ws a.ready))
        (w ∙ ap (λ (y : Reader). reply y C.Kept k) z) g s tt
        (ap (λ (j : ℕ). Local.due (reader_of (with_reading x
        (record { start = m.start; size = record { 0 = m.size }; delay = j }) no_report) region)
        (answer m.node (bare count) t 0x0D [])) l)

    pub stop_due : Servable full t K.ResetReader m ws x (length region) room → r ≡ good count m.node t 0x54 → Says full r [] k.0 out
        → y ≡ with_reading x (record { start = 0; size = record { 0 = 0 }; delay = 0 }) no_report → d ≡ reply y C.Kept k
        → Obeys full count t K.ResetReader m ws x region d out
    unfolding obeyed reader_of mode_of report_of altered Suits reading_ok
    stop_due a g s z w = serves_good (turned_ok x a.readable.in_order _ refl) (w ∙ ap (λ (y : Reader). reply y C.Kept k) z) g s tt refl

  -- ---- no command of a reader
  pub foreign : {k : Kind} → Servable full t k m ws x (length region) room
      → obeyed m.node (bare count) t k m (load_of full m ws) (reader_of x region) ≡ Local.refuse 8 → d ≡ refusal x 8
      → Obeys full count t k m ws x region d out
  foreign a e w = serves_refused a.readable.in_order w e
