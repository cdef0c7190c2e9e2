use Rattle.std.proofs.Common.{◌≡◌, ℤ, List, ℕ, [], ◌∷◌, ◌++◌, length, to_z, of_z, w64, rules, sym, ap, ◌∙◌, codes}
use Rattle.std.specs.Fmt.{decimal, signed_decimal}
use Rattle.std.proofs.lemmas.Result.{IfOk-weaker}
use Rattle.tx_call.specs.Listing.{at_text, placed_line}
use Rattle.tx_call.proofs.Chains.{made, chained}
use Rattle.tx_call.proofs.listing.placed_line.Goals as goal

-- how far right and down something lies, by numbers that are these
at_is : (h v x y : ℤ) → x ≡ h → y ≡ v → codes " at " ++ made (signed_decimal x ∷ codes " " ∷ signed_decimal y ∷ []) (codes "\n") ≡ at_text h v
at_is h v x y h_is v_is =
    (λ i. codes " at " ++ made (signed_decimal (h_is i) ∷ codes " " ∷ signed_decimal (v_is i) ∷ []) (codes "\n"))
    ∙ chained (codes " at ") (signed_decimal h ∷ codes " " ∷ signed_decimal v ∷ []) (codes "\n")

pub returns-in-Lettered : goal.returns-in-Lettered
unfolding placed_line
returns-in-Lettered c =
    let h : to_z w64 (of_z w64 c.in-Lettered.character.h) ≡ c.in-Lettered.character.h = search rules in
    let v : to_z w64 (of_z w64 c.in-Lettered.character.v) ≡ c.in-Lettered.character.v = search rules in
    IfOk-weaker c.joined.result _ _
    (λ line is. is
    ∙ (λ i. codes "char " ++ made (decimal (c.from.ensures i) ∷ codes " font " ∷ decimal (c.from-in-Lettered.ensures i) ∷ []) (at_is c.in-Lettered.character.h c.in-Lettered.character.v _ _ h v i))
    ∙ chained (codes "char ") (decimal c.in-Lettered.character.code ∷ codes " font " ∷ decimal c.in-Lettered.character.font ∷ []) (at_text c.in-Lettered.character.h c.in-Lettered.character.v)
    ∙ ap placed_line (sym c.in-Lettered.is)) c.joined.ensures

pub returns-in-Ruled : goal.returns-in-Ruled
unfolding placed_line
returns-in-Ruled c =
    let h : to_z w64 (of_z w64 c.in-Ruled.rule.h) ≡ c.in-Ruled.rule.h = search rules in
    let v : to_z w64 (of_z w64 c.in-Ruled.rule.v) ≡ c.in-Ruled.rule.v = search rules in
    let height : to_z w64 (of_z w64 c.in-Ruled.rule.height) ≡ c.in-Ruled.rule.height = search rules in
    let width : to_z w64 (of_z w64 c.in-Ruled.rule.width) ≡ c.in-Ruled.rule.width = search rules in
    IfOk-weaker c.joined-in-Ruled.result _ _
    (λ line is. is
    ∙ (λ i. codes "rule " ++ made (signed_decimal (height i) ∷ codes " " ∷ signed_decimal (width i) ∷ []) (at_is c.in-Ruled.rule.h c.in-Ruled.rule.v _ _ h v i))
    ∙ chained (codes "rule ") (signed_decimal c.in-Ruled.rule.height ∷ codes " " ∷ signed_decimal c.in-Ruled.rule.width ∷ []) (at_text c.in-Ruled.rule.h c.in-Ruled.rule.v)
    ∙ ap placed_line (sym c.in-Ruled.is)) c.joined-in-Ruled.ensures

pub returns-in-Noted : goal.returns-in-Noted
unfolding placed_line
returns-in-Noted c =
    let h : to_z w64 (of_z w64 c.in-Noted.special.h) ≡ c.in-Noted.special.h = search rules in
    let v : to_z w64 (of_z w64 c.in-Noted.special.v) ≡ c.in-Noted.special.v = search rules in
    IfOk-weaker c.joined-in-Noted.result _ _
    (λ line is. is
    ∙ (λ i. codes "special " ++ made (decimal (c.len.ensures i) ∷ codes " bytes" ∷ []) (at_is c.in-Noted.special.h c.in-Noted.special.v _ _ h v i))
    ∙ chained (codes "special ") (decimal (length c.in-Noted.special.text) ∷ codes " bytes" ∷ []) (at_text c.in-Noted.special.h c.in-Noted.special.v)
    ∙ ap placed_line (sym c.in-Noted.is)) c.joined-in-Noted.ensures
