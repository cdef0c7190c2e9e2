use Rattle.std.proofs.Common.{◌≡◌, ◌∙◌, List, length, sym, ap, subst}
use Rattle.std.specs.List.{All}
use Rattle.std.proofs.lemmas.Result.{IfOk-weaker}
use Rattle.tx_ligkern.specs.declared.item.LigItem.{LigItem}
use Rattle.tx_word.specs.declared.division.Division.{Division}
use Rattle.tx_word.specs.Dividing.{IsNoted}
use Rattle.tx_word.specs.Divisions.{divisions_of, last_seam, seam_of}
use Rattle.tx_word.proofs.divide.divisions_of.Goals as goal

pub divisions-requires : goal.divisions-requires
divisions-requires c =
    let w = c.args.word.now in
    record {
      there = c.requires.there;
      items_are = c.as_slice.ensures ∙ c.requires.items;
      noted =
          subst (All (IsNoted w.fonts.now w.font w.chars.now w.left w.right c.as_slice.result.now)) (sym c.as_slice-2.ensures)
          (subst (λ (items : List LigItem). All (IsNoted w.fonts.now w.font w.chars.now w.left w.right items) c.args.made.now.seams) (sym c.as_slice.ensures) c.requires.noted);
      between = c.requires.between;
    }

pub returns : goal.returns
returns c =
    let w = c.args.word.now in
    IfOk-weaker c.divisions.result (λ (ds : List Division). ds ≡ divisions_of (seam_of w.fonts.now w.font w.chars.now w.left w.right) (last_seam (length w.chars.now) (length c.as_slice.result.now)) c.args.places.now) _
    (λ ds e. e ∙ ap (λ (items : List LigItem). divisions_of (seam_of w.fonts.now w.font w.chars.now w.left w.right) (last_seam (length w.chars.now) (length items)) c.args.places.now) c.as_slice.ensures)
    c.divisions.ensures
