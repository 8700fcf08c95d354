-- The texts of `_sd` are those of the member with this name, one for each of its elements.
use Rattle.std.proofs.Common.{◌≡◌, suc, List, ◌∷◌, length, Bool, true, false, Option, None, Some, refl, ap, ◌∙◌, bytes_eq}
use Rattle.std.specs.Prelude.{[], if◌then◌else◌, option_map, option_and_then, unwrap_or}
use Rattle.claim_tree.specs.Tree.{Text, Elements, no_elements, element, elements_len, text_of, Members, no_members, member, member_named}
use Rattle.digest_sites.specs.Reserved.{sd_name, sd_texts, texts_of, text_list}

pub sd_found : (ms : Members) → sd_texts ms ≡ unwrap_or (option_and_then text_list (member_named ms sd_name)) []
sd_found no_members = refl
sd_found (member name t ms) = go (bytes_eq name sd_name) (sd_found ms)
  where
    go : (own : Bool) → sd_texts ms ≡ unwrap_or (option_and_then text_list (member_named ms sd_name)) []
        → (if own then unwrap_or (text_list t) [] else sd_texts ms) ≡ unwrap_or (option_and_then text_list (if own then Some t else member_named ms sd_name)) []
    go true ih = refl
    go false ih = ih

pub own_length : (es : Elements) (ds : List Text) → texts_of es ≡ Some ds → elements_len es ≡ length ds
own_length no_elements [] h = refl
own_length no_elements (d ∷ ds) h = cc
own_length (element t es) ds h = go (text_of t) (texts_of es) ds h (own_length es)
  where
    go : (o : Option Text) (p : Option (List Text)) (ds : List Text) → option_and_then (λ s. option_map (λ ss. s ∷ ss) p) o ≡ Some ds → ((ds : List Text) → p ≡ Some ds → elements_len es ≡ length ds) → suc (elements_len es) ≡ length ds
    go None p ds h ih = cc
    go (Some s) None ds h ih = cc
    go (Some s) (Some ss) ds h ih =
        let e : s ∷ ss ≡ ds = cc in
        ap suc (ih ss refl) ∙ ap length e
