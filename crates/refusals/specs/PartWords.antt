-- The names of the members of a JSON serialization.
use Rattle.std.specs.Prelude.{ℕ, List, codes}
use Rattle.refusals.specs.declared.fault.Part.{Part}

abbrev pub part_word : Part → List ℕ
part_word Part.Payload = codes "payload"
part_word Part.Protected = codes "protected"
part_word Part.Signature = codes "signature"
part_word Part.Signatures = codes "signatures"
part_word Part.Header = codes "header"
part_word Part.Disclosures = codes "disclosures"
part_word Part.KbJwt = codes "kb_jwt"
