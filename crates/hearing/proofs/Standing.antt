-- A run file opened: its lines one plaque further, at the count, broken; and what stands of it.
-- Assumes nothing.
use Rattle.units.proofs.Common.{sym, ◌∙◌, ◌≡◌, ap, true, false, List, [], ◌∷◌, ℕ, ◌≤◌, ◌-◌, ◌+◌, ◌<◌, suc, zero, arith, length, drop}
use Rattle.units.proofs.Common.{drop-drop, le-leb, lt-leb, yes_cond, no_cond, subst, false≢true, length-drop}
use Rattle.meaning.proofs.Terms.{Bench, Gateway}
use Rattle.listing.specs.Records.{count_whole, count_said, plaque_whole, plaque_length, plaque_size}
use Rattle.listing.specs.Lines.{commands_line, broken_line}
use Rattle.listing.specs.Listing.{arrived, command_lines, counted_lines, plaque_lines, file_lines, longest_file}
use Rattle.machine.proofs.Terms.{Machine, machine, meaning, unfit}
use Rattle.state.specs.declared.State.{State}
use Rattle.runfile.proofs.Records.{count_there}
use Rattle.hearing.specs.Opened.{to_come, open_lines, Stands}
use Rattle.hearing.specs.declared.opening.Opened.{Opened}

module _ (b : Bench) (g : Gateway) (file : List ℕ) (at : ℕ) where
  pub plaque_on : (k l : ℕ) → 0 < k → plaque_whole b (drop at file) ≡ true → l ≡ plaque_length (drop at file)
      → plaque_lines b k g (drop at file) ≡ plaque_lines b (k - 1) (arrived b g (drop at file)) (drop (at + 11 + l) file)
  unfolding plaque_lines
  plaque_on zero l h w e = absurd (omega arith)
  plaque_on (suc k) l h w e =
      let a : at + plaque_size (drop at file) ≡ at + 11 + l = omega (arith, e) in
      let d : k ≡ suc k - 1 = omega arith in
      yes_cond (broken_line ∷ []) w
      ∙ ap (plaque_lines b k (arrived b g (drop at file))) (drop-drop (plaque_size (drop at file)) at file ∙ ap (λ (z : ℕ). drop z file) a)
      ∙ ap (λ (z : ℕ). plaque_lines b z (arrived b g (drop at file)) (drop (at + 11 + l) file)) d

  pub count_on : (k n : ℕ) → k ≡ 0 → count_whole (drop at file) ≡ true → n ≡ count_said (drop at file)
      → plaque_lines b k g (drop at file) ≡ commands_line n ∷ command_lines b n g (drop (at + 2) file)
  unfolding plaque_lines counted_lines
  count_on zero n h w e =
      yes_cond (broken_line ∷ []) w
      ∙ ap (λ (z : List ℕ). commands_line (count_said (drop at file)) ∷ command_lines b (count_said (drop at file)) g z) (drop-drop 2 at file)
      ∙ ap (λ (z : ℕ). commands_line z ∷ command_lines b z g (drop (at + 2) file)) (sym e)
  count_on (suc k) n h w e = absurd (omega (arith, h))

module _ (b : Bench) (g : Gateway) (bs : List ℕ) where
  pub plaque_off : (k : ℕ) → 0 < k → plaque_whole b bs ≡ false → plaque_lines b k g bs ≡ broken_line ∷ []
  unfolding plaque_lines
  plaque_off zero h w = absurd (omega arith)
  plaque_off (suc k) h w = no_cond _ w

  pub count_off : (k : ℕ) → k ≡ 0 → count_whole bs ≡ false → plaque_lines b k g bs ≡ broken_line ∷ []
  unfolding plaque_lines counted_lines
  count_off zero h w = no_cond _ w
  count_off (suc k) h w = absurd (omega (arith, h))

  -- ---- the whole file
  pub too_long : longest_file < length bs → file_lines b g bs ≡ broken_line ∷ []
  unfolding file_lines
  too_long h = no_cond _ (lt-leb (length bs) longest_file h)

  pub no_plaques : length bs ≤ longest_file → count_whole bs ≡ false → file_lines b g bs ≡ broken_line ∷ []
  unfolding file_lines
  no_plaques h w = yes_cond (broken_line ∷ []) (le-leb (length bs) longest_file h) ∙ no_cond _ w

  pub begun : (n : ℕ) → length bs ≤ longest_file → count_whole bs ≡ true → n ≡ count_said bs → file_lines b g bs ≡ plaque_lines b n g (drop 2 bs)
  unfolding file_lines
  begun n h w e =
      yes_cond (broken_line ∷ []) (le-leb (length bs) longest_file h)
      ∙ yes_cond (broken_line ∷ []) w
      ∙ ap (λ (z : ℕ). plaque_lines b z g (drop 2 bs)) (sym e)

-- ---- what stands of a file that was opened
pub stands_as : {b : Bench} {file : List ℕ} {ls ms : List (List ℕ)} {o : Opened} {m : Machine} → ms ≡ ls → Stands b file ls o m
    → Stands b file ms o m
stands_as {b} {file} {ls} {ms} {o} {m} e s = subst (λ (ls : List (List ℕ)). Stands b file ls o m) (sym e) s

pub stands_broken : {b : Bench} {file : List ℕ} {ls : List (List ℕ)} {s : State} {store memory : List ℕ} → ls ≡ broken_line ∷ []
    → unfit b (machine s store memory) ≡ 0 → (o : Opened) → o ≡ record { walk = record { at = 0; left = 0 }; state = s; fine = false }
    → Stands b file ls o (machine o.state store memory)
unfolding open_lines
stands_broken {b} {file} {ls} {s} {store} {memory} e u o f =
    subst (λ (o : Opened). Stands b file ls o (machine o.state store memory)) (sym f) (record {
      lines = sym e;
      sound = u;
      inside = λ q. absurd (false≢true q);
      short = λ q. absurd (false≢true q);
    })

pub stands_counted : {b : Bench} {file : List ℕ} {m : Machine} (at : ℕ) {k n : ℕ} {s : State} → k ≡ 0 → count_whole (drop at file) ≡ true
    → n ≡ count_said (drop at file) → length file ≤ longest_file → unfit b m ≡ 0
    → Stands b file (plaque_lines b k (meaning b m) (drop at file))
    (record { walk = record { at = at + 2; left = n }; state = s; fine = true }) m
unfolding open_lines
stands_counted {b} {file} {m} at {k} {n} z w e l u = record {
  lines = sym (count_on b (meaning b m) file at k n z w e);
  sound = u;
  inside = λ q. omega (arith, count_there (drop at file) w, length-drop at file);
  short = λ q. l;
}

pub opened_broken : {b : Bench} {file : List ℕ} {ls : List (List ℕ)} {o : Opened} {m : Machine} → Stands b file ls o m → o.fine ≡ false
    → ls ≡ broken_line ∷ []
unfolding open_lines
opened_broken s e = sym s.lines ∙ no_cond _ e

pub opened_fine : {b : Bench} {file : List ℕ} {ls : List (List ℕ)} {o : Opened} {m : Machine} → Stands b file ls o m → o.fine ≡ true
    → ls ≡ commands_line o.walk.left ∷ to_come b file o.walk (meaning b m)
unfolding open_lines
opened_fine s e = sym s.lines ∙ yes_cond _ e
