-- Elements of lists that are put together, and what their tests say.
use Rattle.std.proofs.Common.{List}
use Rattle.std.specs.List.{list_any}
use Rattle.zr_lists.proofs.Truths.{same_test}
use Rattle.zr_lists.proofs.Finds.{In, any_in, in_any}
use Rattle.zr_law_told.proofs.Interests.{SameTests}

-- lists of the same elements pass the same tests
pub same_elements : {X : Type 0} (xs ys : List X) → ((x : X) → In x xs → In x ys) → ((x : X) → In x ys → In x xs) → SameTests xs ys
same_elements xs ys there back f = same_test (list_any f xs) (list_any f ys)
    (λ h. let x = any_in f xs h in in_any f ys x.0 (there x.0 x.1) x.2) (λ h. let x = any_in f ys h in in_any f xs x.0 (back x.0 x.1) x.2)
