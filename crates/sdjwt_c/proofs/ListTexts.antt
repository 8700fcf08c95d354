-- Where a list was read, its text is that of no other.
use Rattle.std.proofs.Common.{◌≡◌, ◌≢◌, List, ℕ, Option, Some, None, Result, Ok, Err, sym, ◌∙◌}
use Rattle.std.specs.Prelude.{IfOk, IfNone}
use Rattle.claim_tree.specs.TreeValues.{text_elements}
use Rattle.claim_tree.specs.JsonText.{Reads}
use Rattle.claim_tree.specs.ListViews.{elements_of}
use Rattle.claim_tree.specs.Tree.{Text, Elements, array}
use Rattle.claim_tree.specs.declared.tree.Tree as owned
use Rattle.claim_tree.proofs.OneTree.{one_tree}
use Rattle.sdjwt_c.specs.Said.{IsNoListText}

-- the elements of the one list of a text are those of no texts
other_list : (bytes : List ℕ) (es : Elements) (ts : List owned.Tree) → Reads bytes (array es) → elements_of ts ≡ es → ((list : List Text) → text_elements list ≢ elements_of ts) → IsNoListText bytes
other_list bytes es ts reads same other texts is =
    let both : array (text_elements texts) ≡ array es = sym is.is_list ∙ one_tree bytes is.tree (array es) is.reads reads in
    let equal : text_elements texts ≡ es = cc both in
    other texts (equal ∙ sym same)

-- where no texts of the list are found, the text is that of no list of texts
pub none_found : {E : Type 0} (bytes : List ℕ) (es : Elements) (ts : List owned.Tree) → Reads bytes (array es) → elements_of ts ≡ es
    → (found : Result (Option (List Text)) E) → IfOk found (λ texts. IfNone texts ((list : List Text) → text_elements list ≢ elements_of ts)) → IfOk found (λ texts. IfNone texts (IsNoListText bytes))
none_found bytes es ts reads same (Ok (Some texts)) other = tt
none_found bytes es ts reads same (Ok None) other = other_list bytes es ts reads same other
none_found bytes es ts reads same (Err e) other = tt
