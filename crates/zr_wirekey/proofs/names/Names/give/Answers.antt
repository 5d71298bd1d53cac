use Rattle.std.proofs.Common.{◌≡◌, [], ◌∷◌, ◌++◌, None, true, refl, ap, ◌∙◌, arith}
use Rattle.zr_wirekey.specs.Names.{NameList, has_room, number_of}
use Rattle.zr_wirekey.proofs.Giving.{given, same_numbering}
use Rattle.zr_wirekey.proofs.names.Names.give.Goals as goal

pub invariant_of-self-2 : goal.invariant_of-self-2
invariant_of-self-2 c =
    let names : NameList = c.self.inside.texts.items in
    let items : c.push_reserved.new.self.items ≡ names ++ c.args.text.now ∷ [] =
    c.push_reserved.ensures.items ∙ ap (λ z. z ++ c.in_ok-kept.kept ∷ []) c.reserve.ensures.items ∙ ap (λ t. names ++ t ∷ []) c.in_ok-kept.ensures in
    let key : c.into_vec.result.items ≡ c.args.text.now = c.into_vec.ensures ∙ c.in_ok-copy.ensures in
    let none : number_of names c.args.text.now ≡ None = ap (λ (z : NameList). number_of z c.args.text.now) c.self.view_is ∙ c.requires.new in
    let room : has_room names c.args.text.now ≡ true = ap (λ (z : NameList). has_room z c.args.text.now) c.self.view_is ∙ c.requires.room in
    let all = given (λ k. k.items) names c.self.inside.numbers.entries c.self.inside.bytes c.into_vec.result _ c.args.text.now c.self.invariant none room key (omega (arith, c.len.ensures, c.self.invariant.few)) in
    same_numbering (λ k. k.items) _ _ _ _ _ _ items c.in_ok-insert.ensures.entries refl all
