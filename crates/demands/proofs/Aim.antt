-- Whom a call is for, taken apart.
-- Assumes nothing.
use Rattle.units.proofs.Common.{◌≡◌, refl, true, false, Bool, cond, ◌&&◌, ℕ, arith, eqb, leb, eqb-true, leb-true, and_true}
use Rattle.meaning.proofs.Terms.{Bench, hub, is_reader, Call, Whom, nobody, gateway, one, named, serves, whom}
use Rattle.demands.specs.Sound.{Sound}

pub data Aim (b : Bench) (c : Call) : Whom → Type 0 where
  reader : is_reader b (named c) ≡ true → Aim b c (one (named c))
  desk : named c ≡ hub → serves c ≡ true → Aim b c gateway
  nowhere : is_reader b (named c) ≡ false → (eqb (named c) hub && serves c) ≡ false → Aim b c nobody

pub aim : (b : Bench) (c : Call) → Aim b c (whom b c)
unfolding whom
aim b c = by_kind (is_reader b (named c)) refl (eqb (named c) hub && serves c) refl
  where
    by_kind : (t : Bool) → is_reader b (named c) ≡ t → (u : Bool) → (eqb (named c) hub && serves c) ≡ u
        → Aim b c (cond t (one (named c)) (cond u gateway nobody))
    by_kind true p u q = Aim.reader p
    by_kind false p true q = let r = and_true (eqb (named c) hub) (serves c) q in Aim.desk (eqb-true (named c) hub r.0) r.1
    by_kind false p false q = Aim.nowhere p q

-- no reader is the gateway
pub reader_apart : (b : Bench) → Sound b → (n : ℕ) → is_reader b n ≡ true → n ≡ hub → ⊥
reader_apart b ok n e q = let le = leb-true n b.readers (and_true (leb 1 n) (leb n b.readers) e).1 in omega (arith, ok)
