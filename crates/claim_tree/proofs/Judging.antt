-- The grammar's loops, a turn at a time, where of each value is known whether it has a number that is not whole.
use Rattle.std.proofs.Common.{◌≡◌, ℕ, ◌-◌, ◌<◌, List, Bool, true, false, ◌||◌, Option, Some, None, inl, inr, ◌⊎◌, ◌∷◌, Bor, option_map, refl, ap, ◌∙◌}
use Rattle.json.specs.Token.{Token}
use Rattle.json.specs.Reads.{token_of}
use Rattle.json.specs.declared.token.Token.{Token as ReadToken}
use Rattle.json.specs.declared.token.Token.TheVariants.{String, Bool as Flag, Null}
use Rattle.json.specs.Json as json
use Rattle.json.proofs.Grammar.{value_is}
use Rattle.json.specs.Json.{Parse, parse_map, after_end_array, items, members, value}
use Rattle.serde_json.specs.Data.{Num, Data, number, array, object, Items, item, Members}
use Rattle.serde_json.specs.Find.{is_float}
use Rattle.serde_json.specs.Read.{of_json, of_items, converted}
use Rattle.serde_json.specs.Written.{has_float, items_have_float, members_have_float}
use Rattle.claim_tree.proofs.TreeReading.{parse_some, item_read}

-- a text, a flag or null has no number
pub plain_judged : (depth : ℕ) (k : ReadToken) (ts r : List Token) → ts ≡ token_of k ∷ r → (((x : Bor (List ℕ)) × k ≡ String x) ⊎ (((b : Bool) × k ≡ Flag b) ⊎ (k ≡ Null))) → parse_map has_float (converted of_json (value depth ts)) ≡ Some (false, r)
plain_judged depth k ts r e (inl is) = ap (λ o. parse_map has_float (converted of_json o)) (ap (value depth) (e ∙ ap (λ k. token_of k ∷ r) is.1) ∙ value_is depth _)
plain_judged depth k ts r e (inr (inl is)) = ap (λ o. parse_map has_float (converted of_json o)) (ap (value depth) (e ∙ ap (λ k. token_of k ∷ r) is.1) ∙ value_is depth _)
plain_judged depth k ts r e (inr (inr is)) = ap (λ o. parse_map has_float (converted of_json o)) (ap (value depth) (e ∙ ap (λ k. token_of k ∷ r) is) ∙ value_is depth _)

pub number_judged : (n : Option Num) (r : List Token) → parse_map has_float (option_map (λ d. (d, r)) (option_map number n)) ≡ option_map (λ float. (float, r)) (option_map is_float n)
number_judged None r = refl
number_judged (Some n) r = refl

pub array_judged : (o : Option (Items × List Token)) → parse_map has_float (parse_map array o) ≡ parse_map items_have_float o
array_judged None = refl
array_judged (Some p) = refl

pub object_judged : (o : Option (Members × List Token)) → parse_map has_float (parse_map object o) ≡ parse_map members_have_float o
object_judged None = refl
object_judged (Some p) = refl

-- ---- elements

pub none_yet : (o : Option (Items × List Token)) → parse_map items_have_float o ≡ parse_map (λ b. false || b) (parse_map items_have_float o)
none_yet None = refl
none_yet (Some p) = refl

pub or_none : (float : Bool) → (float || false) ≡ float
or_none true = refl
or_none false = refl

either : (float one rest : Bool) → (float || (one || rest)) ≡ ((one || float) || rest)
either true true rest = refl
either true false rest = refl
either false true rest = refl
either false false rest = refl

one_more : (float one : Bool) (d : Data) → has_float d ≡ one → (o : Option (Items × List Token))
    → parse_map (λ b. float || b) (parse_map items_have_float (parse_map (item d) o)) ≡ parse_map (λ b. (one || float) || b) (parse_map items_have_float o)
one_more float one d e None = refl
one_more float one d e (Some p) = ap (λ b. Some (b, p.1)) (ap (λ b. float || (b || items_have_float p.0)) e ∙ either float one (items_have_float p.0))

pub item_judged : (p : Parse json.Json) (n : ℕ) (ts r : List Token) (float one : Bool) → 0 < n → after_end_array ts ≡ None → parse_map has_float (converted of_json (p ts)) ≡ Some (one, r)
    → parse_map (λ b. float || b) (parse_map items_have_float (converted of_items (items p n ts))) ≡ parse_map (λ b. (one || float) || b) (parse_map items_have_float (converted of_items (items p (n - 1) r)))
item_judged p n ts r float one some going e =
    let d = parse_some has_float (converted of_json (p ts)) one r e in
    ap (λ o. parse_map (λ b. float || b) (parse_map items_have_float o)) (item_read p n ts r d.0 some going d.1) ∙ one_more float one d.0 d.2 _
