-- The gateway's own commands: each way that the code returns is the definition's local outcome.
-- Assumes nothing.
use Rattle.units.proofs.Common.{sym, ◌∙◌, ◌≡◌, refl, ap, subst, true, not, List, [], ◌∷◌, ℕ, ◌≤◌, arith, eqb, T, length, take, every}
use Rattle.units.proofs.Common.{bytes_of, keys, sets}
use types.Run.{OneOf, hit}
use denote.Enum.Declared.{tag_of}
use Rattle.units.specs.declared.Words.{Words}
use Rattle.units.specs.declared.stamp.Stamp.{Stamp}
use Rattle.meaning.proofs.Terms.{full, hub, response_body, well_formed, emptied, swept, row_of, carried, Local, Desk, answer, ruled, governed}
use Rattle.meaning.specs.declared.table.OfGateway.{OfGateway}
use Rattle.meaning.specs.declared.table.OfGateway.TheVariants.{GetName, SetName, Initialise, ResetGateway, Clear}
use Rattle.meaning.specs.declared.table.Kind.{Kind}
use Rattle.meaning.specs.declared.table.Kind.TheVariants as K
use Rattle.meaning.specs.declared.packet.Command.{Command}
use Rattle.meaning.specs.declared.packet.Response.{Response}
use Rattle.meaning.specs.contracts.table.Kind.{the_type}
use Rattle.machine.proofs.Terms.{name_ok}
use Rattle.state.specs.declared.Name.{Name}
use Rattle.store.specs.Swept.{broom_of}
use Rattle.store.specs.declared.Broom.{Broom}
use Rattle.store.specs.declared.Broom.TheVariants as B
use Rattle.answers.specs.Ordered.{load_of}
use Rattle.answers.specs.Say.{good, Says}
use Rattle.answers.specs.Decided.{bare, told, Formed}
use Rattle.answers.specs.declared.Verdict.TheVariants as W
use Rattle.desk.specs.Ruled.{title_of, Limited, LimitedOf, Governable, Rules, Governs}
use Rattle.desk.specs.declared.Ruled.{Ruled}
use Rattle.desk.proofs.Names.{blank, written, name_ok_lem, name_long, title_is}

abbrev due_of : Name → Broom → Words → Ruled
due_of name broom w = record { name = name; broom = broom; words = w; verdict = W.Due }

abbrev says_of : Broom → Name → List ℕ → Local Desk
says_of broom name w = Local.due (record { broom = broom_of broom; title = title_of name }) w

-- ---- an answer that is due: once for all commands
rules_due : {l : Local Desk} {out : List ℕ} {d : Ruled} {name : Name} {broom : Broom} {w : Words} {r : Response} {bs : List ℕ}
    → (count : ℕ) (t : Stamp) (echo : ℕ) → r ≡ good count hub t echo → Says full r bs w.0 out → d ≡ due_of name broom w → name_ok name ≡
    true → length name.bytes ≡ 64
    → says_of broom name (response_body (good count hub t echo) bs) ≡ l → Rules full l d out
unfolding told Formed
rules_due {l} {out} {d} {name} {broom} {w} {r} {bs} count t echo e s f o wide q =
    subst (λ (d : Ruled). Rules full l d out) (sym f)
    (record {
      same = ap (says_of broom name) (s.words ∙ ap (λ (r : Response). response_body r bs) e) ∙ q;
      settles = record {
        in_order = o;
        wide = wide;
        inside = s.inside;
        formed = ap (λ (r : Response). well_formed full r.node (take w.0 out)) (sym e) ∙ s.formed;
      };
    })

-- ---- what 21 brings
pub name_whole : {t : Stamp} {k : OfGateway} (m : Command) (ws : List ℕ) {name : Name} {room : ℕ}
    → Governable full t (K.Gateway k) m ws name room → k ≡ SetName → (m.size ≤ 64) × (m.size ≡ length (load_of full m ws))
unfolding LimitedOf Limited
name_whole m ws g e = subst (λ (k : OfGateway). LimitedOf full (K.Gateway k) m ws) e g.told

-- ---- a command of the gateway, by its kind; r is the answer that was said, d what was handed back
module _ (count : ℕ) (name : Name) (t : Stamp) (k : OfGateway) (m : Command) (ws : List ℕ) {room : ℕ}
    (g : Governable full t (K.Gateway k) m ws name room) {out : List ℕ} {d : Ruled} {w : Words} {r : Response} where
  kept : {broom : Broom} {bs : List ℕ} (c echo : ℕ) {j : OfGateway} → k ≡ j → r ≡ good c hub t echo → Says full r bs w.0 out
      → d ≡ due_of name broom w
      → says_of broom name (response_body (good c hub t echo) bs) ≡ governed (bare count) (title_of name) t (K.Gateway j) (load_of full m ws)
      → Governs full count name t (K.Gateway k) m ws d out
  kept c echo e f s p q =
      rules_due c t echo f s p g.in_order g.wide
      (q ∙ ap (λ (k : OfGateway). governed (bare count) (title_of name) t (K.Gateway k) (load_of full m ws)) (sym e))

  -- 11
  pub name_told : k ≡ GetName → r ≡ good count hub t 0x11 → Says full r (title_of name) w.0 out → d ≡ due_of name B.Nothing w
      → Governs full count name t (K.Gateway k) m ws d out
  unfolding governed ruled answer broom_of
  name_told e f s p = kept count 0x11 e f s p refl

  -- 61: its own answer is the first after the counts start again
  pub restarted : k ≡ ResetGateway → r ≡ good 0 hub t 0x61 → Says full r [] w.0 out → d ≡ due_of name B.Reset w
      → Governs full count name t (K.Gateway k) m ws d out
  unfolding governed ruled answer broom_of swept emptied
  restarted e f s p = kept 0 0x61 e f s p refl

  -- 79
  pub cleared : k ≡ Clear → r ≡ good count hub t 0x79 → Says full r [] w.0 out → d ≡ due_of name B.Clear w
      → Governs full count name t (K.Gateway k) m ws d out
  unfolding governed ruled answer broom_of swept emptied
  cleared e f s p = kept count 0x79 e f s p refl

  -- 21: bytes are what came, over zeros
  pub renamed : {bytes : List ℕ} → k ≡ SetName → r ≡ good count hub t 0x21 → Says full r [] w.0 out
      → bytes ≡ sets (take m.size blank) 0 (bytes_of ws) → d ≡ due_of (written m.size bytes) B.Nothing w → Governs full count name t
      (K.Gateway k) m ws d out
  unfolding governed ruled answer broom_of load_of
  renamed e f s u p =
      let z = name_whole m ws g e in
      let c = carried (row_of full m.command) m in
      rules_due count t 0x21 f s p (name_ok_lem _ c _ z.0 z.1 u) (name_long _ c _ z.0 z.1 u)
      (ap (λ (s : List ℕ). Local.due (record { broom = broom_of B.Nothing; title = s }) (response_body (good count hub t 0x21) []))
      (title_is _ c _ z.0 z.1 u)
      ∙ ap (λ (k : OfGateway). governed (bare count) (title_of name) t (K.Gateway k) (load_of full m ws)) (sym e))

  -- 60
  pub nameless : {n : Name} → k ≡ Initialise → r ≡ good count hub t 0x60 → Says full r [] w.0 out
      → n ≡ record { length = record { 0 = 0 }; bytes = blank } → d ≡ due_of n B.Nothing w → Governs full count name t (K.Gateway k) m ws d
      out
  unfolding governed ruled answer broom_of name_ok every
  nameless e f s q p =
      rules_due count t 0x60 f s (p ∙ ap (λ (n : Name). due_of n B.Nothing w) q) refl refl
      (ap (λ (k : OfGateway). governed (bare count) (title_of name) t (K.Gateway k) (load_of full m ws)) (sym e))

-- ---- a kind that is none of the gateway's
refused_8 : (count : ℕ) (s : List ℕ) (t : Stamp) (bs : List ℕ) (k : Kind) → OneOf (0 ∷ 1 ∷ 2 ∷ 4 ∷ []) (tag_of the_type k)
    → Local.refuse 8 ≡ governed (bare count) s t k bs
unfolding governed
refused_8 count s t bs (K.Plaque p) e = refl
refused_8 count s t bs K.Continuous e = refl
refused_8 count s t bs K.ResetReader e = refl
refused_8 count s t bs (K.Gateway k) e = absurd (keys (λ (x : ℕ). T (not (eqb x 3))) (0 ∷ 1 ∷ 2 ∷ 4 ∷ []) 3 e (tt, (tt, (tt, (tt, tt)))))
refused_8 count s t bs K.Unknown e = refl

-- what is none of the gateway's, by its kind's number
pub others : (k : Kind) → ((g : OfGateway) → k ≡ K.Gateway g → ⊥) → OneOf (0 ∷ 1 ∷ 2 ∷ 4 ∷ []) (tag_of the_type k)
others (K.Plaque p) h = hit (0 ∷ 1 ∷ 2 ∷ 4 ∷ []) 0 tt
others K.Continuous h = hit (0 ∷ 1 ∷ 2 ∷ 4 ∷ []) 1 tt
others K.ResetReader h = hit (0 ∷ 1 ∷ 2 ∷ 4 ∷ []) 2 tt
others (K.Gateway g) h = absurd (h g refl)
others K.Unknown h = hit (0 ∷ 1 ∷ 2 ∷ 4 ∷ []) 4 tt

pub governs_refused : (count : ℕ) (name : Name) (t : Stamp) (k : Kind) (m : Command) (ws : List ℕ) {room : ℕ}
    → Governable full t k m ws name room → OneOf (0 ∷ 1 ∷ 2 ∷ 4 ∷ []) (tag_of the_type k) → {out : List ℕ}
    → Governs full count name t k m ws (record { name = name; broom = B.Nothing; words = record { 0 = 0 }; verdict = W.Refused 8 }) out
unfolding told Formed
governs_refused count name t k m ws g e = record {
  same = refused_8 count (title_of name) t (load_of full m ws) k e;
  settles = record { in_order = g.in_order; wide = g.wide; inside = omega arith; formed = tt };
}
