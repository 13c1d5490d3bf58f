-- What `read_line` heard, with what it left in the buffers, is what the line says: they have room for it, and keep their lengths.
-- Assumes nothing.
use Rattle.units.proofs.Common.{◌∙◌, ◌≡◌, refl, List, ℕ, ◌≤◌, ◌+◌, arith, length, drop, take, take_at, length-sets, sets}
use Rattle.units.proofs.PackingLaws.{sets_fits}
use Rattle.meaning.proofs.Terms.{full, command, check, arrive, leave, collect, acknowledge}
use Rattle.dialog.specs.Spoken.{Spoken, passed, unreadable, call, look, spoken, most_words, longest_id, longest_plaque}
use Rattle.dialog.proofs.SpokenLaws.{Kept, spoken_kept}
use Rattle.lines.specs.declared.Heard.{Heard}
use Rattle.lines.specs.Heard.{heard_of, words_in, id_in, bytes_in}
use Rattle.aiming.specs.Aim.{Fits}

-- what is said, by what was heard and what stands in the buffers; a look lies within the store, and its words have room on a line
unfoldable pub Understood : Spoken → Heard → List ℕ → List ℕ → List ℕ → Type 0
Understood s Heard.Passed ws id bs = s ≡ passed
Understood s Heard.Unreadable ws id bs = s ≡ unreadable
Understood s (Heard.Command t f n) ws id bs = (s ≡ call (command t f (take n.0 ws))) × (n.0 ≤ length ws)
Understood s (Heard.Check n t c) ws id bs = s ≡ call (check n t c)
Understood s (Heard.Arrive n i k) ws id bs =
    (s ≡ call (arrive n (take i.0 id) (take k.0 bs))) × (i.0 ≤ length id) × (k.0 ≤ length bs)
Understood s (Heard.Leave n) ws id bs = s ≡ call (leave n)
Understood s (Heard.Collect n f) ws id bs = s ≡ call (collect f n 135)
Understood s (Heard.Acknowledge n h) ws id bs = s ≡ call (acknowledge n h)
Understood s (Heard.Store f c) ws id bs = (s ≡ look f c) × (c ≤ 128) × (f + c ≤ full.store)

-- a buffer that has room for xs has them in front
front : (xs old : List ℕ) → length xs ≤ length old → take (length xs) (sets old 0 xs) ≡ xs
front xs old h = rw (sets_fits xs old h) (take_at xs (drop (length xs) old) (length xs) refl)

module _ (w i b : List ℕ) (lw : length w ≡ most_words) (li : length i ≡ longest_id) (lb : length b ≡ longest_plaque) where
  by_said : (s : Spoken) → Kept s → Understood s (heard_of s) (sets w 0 (words_in s)) (sets i 0 (id_in s)) (sets b 0 (bytes_in s))
      × Fits (heard_of s) (length (sets w 0 (words_in s)))
  unfolding Kept heard_of words_in id_in bytes_in Understood Fits
  by_said passed k = (refl, tt)
  by_said unreadable k = (refl, tt)
  by_said (call (command t f ws)) k =
      let fits : length ws ≤ length (sets w 0 ws) = rw length-sets (omega arith) in
      ((rw (front ws w (omega arith)), fits), fits)
  by_said (call (check n t c)) k = (refl, tt)
  by_said (call (arrive n id bs)) k =
      ((rw (front id i (omega arith), front bs b (omega arith)), rw length-sets (omega arith), rw length-sets (omega arith)), tt)
  by_said (call (leave n)) k = (refl, tt)
  by_said (call (collect f n k')) k = (rw k, tt)
  by_said (call (acknowledge n h)) k = (refl, tt)
  by_said (look f c) k = ((refl, k.0, k.1), tt)

pub record Buffered (line : List ℕ) (h : Heard) (ws id bs : List ℕ) : Type 0 where
  pub tells : Understood (spoken line) h ws id bs
  pub fits : Fits h (length ws)
  pub words_long : length ws ≡ most_words
  pub id_long : length id ≡ longest_id
  pub bytes_long : length bs ≡ longest_plaque

pub understood : (w i b : List ℕ) → length w ≡ most_words → length i ≡ longest_id → length b ≡ longest_plaque → (line : List ℕ) {h : Heard}
    {ws id bs : List ℕ}
    → (h ≡ heard_of (spoken line)) × ((ws ≡ sets w 0 (words_in (spoken line))) × ((id ≡ sets i 0 (id_in (spoken line)))
    × (bs ≡ sets b 0 (bytes_in (spoken line)))))
    → Buffered line h ws id bs
understood w i b lw li lb line (e, (f, (g, k))) =
    let t = by_said w i b lw li lb (spoken line) (spoken_kept line) in
    rw (e, f, g, k) (record {
      tells = t.0;
      fits = t.1;
      words_long = length-sets w 0 (words_in (spoken line)) ∙ lw;
      id_long = length-sets i 0 (id_in (spoken line)) ∙ li;
      bytes_long = length-sets b 0 (bytes_in (spoken line)) ∙ lb;
    })
