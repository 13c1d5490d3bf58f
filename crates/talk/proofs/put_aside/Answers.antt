-- `put_aside` goes by its case, and a look's words are a part of the store.
-- Assumes nothing.
use Rattle.units.proofs.Common.{sym, ◌≡◌, refl, ap, subst, List, ℕ, ◌≤◌, ◌-◌, ◌+◌, arith, length, drop, length-take}
use Rattle.text.specs.Text.{Put}
use Rattle.text.proofs.Writing.{put_as}
use Rattle.dialog.specs.Dialog.{store_line}
use Rattle.aiming.specs.declared.Aside.{Aside}
use Rattle.talk.specs.Parts.{aside_line, Lies}
use Rattle.talk.proofs.Talking.{part_is}
use Rattle.talk.proofs.put_aside.Goals as goal

-- the line by its case
so : {a k : Aside} (store : List ℕ) {old new : List ℕ} {to r : ℕ} → a ≡ k → Put old to (aside_line k store) new r
    → Put old to (aside_line a store) new r
so store e p = put_as (ap (λ (a : Aside). aside_line a store) (sym e)) p

-- a look that lies within the store
lies : {a : Aside} (first count store : ℕ) → a ≡ Aside.Look first count → Lies a store → (first + count ≤ store) × (count ≤ 128)
unfolding Lies
lies first count store e h = subst (λ (a : Aside). Lies a store) e h

pub slice_bounds-put_store-end : goal.slice_bounds-put_store-end
slice_bounds-put_store-end c =
    let l = c.in-Look in
    omega (arith, lies l.first l.count (length c.args.store.now) l.is c.requires.1)

pub put_store-requires : goal.put_store-requires
put_store-requires c =
    let f = c.in-Look.first in
    let k = c.in-Look.count in
    let l = lies f k (length c.args.store.now) c.in-Look.is c.requires.1 in
    (c.requires.0, omega (arith, l.1, length-take (f + k - f) (drop f c.args.store.now)))

pub returns-in-Passed : goal.returns-in-Passed
unfolding aside_line
returns-in-Passed c = so c.args.store.now c.in-Passed.is (record { next = omega arith; wrote = refl })

pub returns-in-Unreadable : goal.returns-in-Unreadable
unfolding aside_line
returns-in-Unreadable c = so c.args.store.now c.in-Unreadable.is c.put_unreadable.ensures

pub returns-in-Refused : goal.returns-in-Refused
unfolding aside_line
returns-in-Refused c = so c.args.store.now c.in-Refused.is c.put_refused.ensures

pub returns-in-Look : goal.returns-in-Look
unfolding aside_line
returns-in-Look c =
    let l = c.in-Look in
    let lie = lies l.first l.count (length c.args.store.now) l.is c.requires.1 in
    so c.args.store.now l.is (put_as (ap store_line (part_is l.first l.count c.args.store.now lie.0)) c.put_store.ensures)
