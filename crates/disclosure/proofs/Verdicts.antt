-- A text is one disclosure or has one refusal.
use Rattle.std.proofs.Common.{◌≡◌, ◌≢◌, inl, inr, Option, Some, refl, sym, subst, ◌∙◌}
use Rattle.std.specs.Str.{IsUtf8}
use Rattle.serde_json.specs.Data as port
use Rattle.serde_json.specs.Read as reading
use Rattle.b64url_text.specs.Base64url.{Decodes}
use Rattle.b64url_text.proofs.Codes.{one_code}
use Rattle.claim_tree.specs.Tree.{Text, Tree}
use Rattle.claim_tree.specs.JsonText.{Reads, IsNotJson, IsNotWhole, data_of}
use Rattle.claim_tree.proofs.OneTree.{one_tree, is_whole}
use Rattle.disclosure.specs.Disclosure.{array_of, IsDisclosure}
use Rattle.disclosure.specs.DisclosureRefusals.{DecodesTo, IsDisclosureRefused}
use Rattle.disclosure.proofs.Arrays.{array_of-injective}
use Rattle.disclosure.specs.declared.errors.DisclosureError.{DisclosureError}

same_tree : (text json other : Text) (t u : Tree) → Decodes text json → Decodes text other → Reads json t → Reads other u → t ≡ u
same_tree text json other t u d e r s = one_tree other t u (subst (λ j. Reads j t) (one_code text json other d e) r) s

pub one_disclosure : (text : Text) (salt s : Tree) (name n : Option Text) (value v : Tree) → IsDisclosure text salt name value → IsDisclosure text s n v → (salt ≡ s) × (name ≡ n) × (value ≡ v)
one_disclosure text salt s name n value v d e =
    array_of-injective salt s name n value v (same_tree text d.json e.json (array_of salt name value) (array_of s n v) d.decodes e.decodes d.reads e.reads)

has_value : (bytes : Text) (x : port.Data) → IsUtf8 bytes → reading.read bytes ≡ Some x → IsNotJson bytes → ⊥
has_value bytes x u value (inl not_utf8) = not_utf8 u
has_value bytes x u value (inr none) = let both = sym none ∙ value in cc both

json_read : (text json : Text) (t : Tree) → Decodes text json → Reads json t → DecodesTo IsNotJson text → ⊥
json_read text json t d r h = has_value json (data_of t) r.utf8 r.value (subst IsNotJson (one_code text h.json json h.decodes d) h.so)

whole_read : (text json : Text) (t : Tree) → Decodes text json → Reads json t → DecodesTo IsNotWhole text → ⊥
whole_read text json t d r h = is_whole json t r (subst IsNotWhole (one_code text h.json json h.decodes d) h.so)

json_whole : (text : Text) → DecodesTo IsNotJson text → DecodesTo IsNotWhole text → ⊥
json_whole text h n = has_value n.json n.so.data_is n.so.utf8 n.so.value (subst IsNotJson (one_code text h.json n.json h.decodes n.decodes) h.so)

pub not_both : (text : Text) (salt : Tree) (name : Option Text) (value : Tree) (error : DisclosureError) → IsDisclosure text salt name value → IsDisclosureRefused text error → error ≡ DisclosureError.Memory
not_both text salt name value DisclosureError.Memory d h = refl
not_both text salt name value DisclosureError.NotBase64 d h = absurd (h d.json d.decodes)
not_both text salt name value DisclosureError.NotJson d h = absurd (json_read text d.json (array_of salt name value) d.decodes d.reads h)
not_both text salt name value DisclosureError.NotWhole d h = absurd (whole_read text d.json (array_of salt name value) d.decodes d.reads h)
not_both text salt name value DisclosureError.NotDisclosure d h =
    absurd (h.other salt name value (same_tree text h.json d.json h.tree (array_of salt name value) h.decodes d.decodes h.reads d.reads))

pub one_cause : (text : Text) (error other : DisclosureError) → IsDisclosureRefused text error → IsDisclosureRefused text other → error ≢ DisclosureError.Memory → other ≢ DisclosureError.Memory → error ≡ other
one_cause text DisclosureError.Memory other g h m n = absurd (m refl)
one_cause text error DisclosureError.Memory g h m n = absurd (n refl)
one_cause text DisclosureError.NotBase64 DisclosureError.NotBase64 g h m n = refl
one_cause text DisclosureError.NotBase64 DisclosureError.NotJson g h m n = absurd (g h.json h.decodes)
one_cause text DisclosureError.NotBase64 DisclosureError.NotWhole g h m n = absurd (g h.json h.decodes)
one_cause text DisclosureError.NotBase64 DisclosureError.NotDisclosure g h m n = absurd (g h.json h.decodes)
one_cause text DisclosureError.NotJson DisclosureError.NotBase64 g h m n = absurd (h g.json g.decodes)
one_cause text DisclosureError.NotJson DisclosureError.NotJson g h m n = refl
one_cause text DisclosureError.NotJson DisclosureError.NotWhole g h m n = absurd (json_whole text g h)
one_cause text DisclosureError.NotJson DisclosureError.NotDisclosure g h m n = absurd (json_read text h.json h.tree h.decodes h.reads g)
one_cause text DisclosureError.NotWhole DisclosureError.NotBase64 g h m n = absurd (h g.json g.decodes)
one_cause text DisclosureError.NotWhole DisclosureError.NotJson g h m n = absurd (json_whole text h g)
one_cause text DisclosureError.NotWhole DisclosureError.NotWhole g h m n = refl
one_cause text DisclosureError.NotWhole DisclosureError.NotDisclosure g h m n = absurd (whole_read text h.json h.tree h.decodes h.reads g)
one_cause text DisclosureError.NotDisclosure DisclosureError.NotBase64 g h m n = absurd (h g.json g.decodes)
one_cause text DisclosureError.NotDisclosure DisclosureError.NotJson g h m n = absurd (json_read text g.json g.tree g.decodes g.reads h)
one_cause text DisclosureError.NotDisclosure DisclosureError.NotWhole g h m n = absurd (whole_read text g.json g.tree g.decodes g.reads h)
one_cause text DisclosureError.NotDisclosure DisclosureError.NotDisclosure g h m n = refl
