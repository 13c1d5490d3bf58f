-- There is room for the piece, or it is left out.
-- Assumes nothing.
use Rattle.std.proofs.Common.{arith, refl, sym, ◌∙◌, leb-true, leb-false}
use Rattle.guide.proofs.Saying.{said, left_out}
use Rattle.guide.proofs.line.Line.say.Goals as goal
use Rattle.guide.proofs.line.Line.say.Goals.{else-self-via-then-self+else-fits, else-self-via-else-self}

pub returns-then-fits : goal.returns-then-fits
returns-then-fits g c =
    let enough = leb-true _ _ (sym c.fits.ensures ∙ c.if-fits.true) in
    said (g.P.Piece.room c.args.piece) refl (omega arith) c.put-self.ensures.short c.put-self.ensures.written

pub returns : goal.returns
returns g c =
    left_out c.args.self.now (g.P.Piece.room c.args.piece) (g.P.Piece.text c.args.piece)
    (elim c.else-self.branch [
      | else-self-via-then-self+else-fits w ↦
          let few = leb-false _ _ (sym w.fits.ensures ∙ w.if-fits.false) in
          omega arith
      | else-self-via-else-self w ↦ let past = w.if-self.false in omega arith
    ])
