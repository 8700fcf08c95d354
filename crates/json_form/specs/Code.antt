-- For the models: a code for tokens, by which a proof tells two of them apart.
use Rattle.std.specs.Prelude.{List, Option, refl}
use Rattle.std.specs.Coded.{Coded, coded_list, coded×, coded_option, code_by}
use Rattle.claim_tree.specs.Tree.{Text, Members}
use Rattle.claim_tree.specs.Code.{text_code, members_code}
use Rattle.compact_form.specs.declared.parts.JwtParts.{JwtParts}
use Rattle.compact_form.specs.declared.parts.Parts.{Parts}
use Rattle.json_form.specs.declared.token.Token.{Token}

abbrev jwt_code : Coded JwtParts
jwt_code =
    code_by (Text × (Text × Text)) (coded× text_code (coded× text_code text_code))
    (λ j. (j.protected, (j.payload, j.signature)))
    (λ p. record { protected = p.0; payload = p.1.0; signature = p.1.1 }) (λ _. refl)

abbrev parts_code : Coded Parts
parts_code =
    code_by (JwtParts × (List Text × Option JwtParts))
    (coded× jwt_code (coded× (coded_list text_code) (coded_option jwt_code)))
    (λ p. (p.signed, (p.disclosures, p.binding)))
    (λ p. record { signed = p.0; disclosures = p.1.0; binding = p.1.1 }) (λ _. refl)

abbrev pub token_code : Coded Token
token_code =
    code_by (Parts × Members) (coded× parts_code members_code) (λ t. (t.parts, t.outer))
    (λ p. record { parts = p.0; outer = p.1 }) (λ _. refl)
