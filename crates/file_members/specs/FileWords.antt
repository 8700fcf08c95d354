-- The printed words of the members of the files that a command reads.
use Rattle.std.specs.Prelude.{codes}
use Rattle.claim_tree.specs.Tree.{Text}
use Rattle.file_members.specs.declared.field.Field.{Field}

abbrev pub field_word : Field → Text
field_word Field.Keys = codes "keys"
field_word Field.Algs = codes "algs"
field_word Field.Typ = codes "typ"
field_word Field.Iss = codes "iss"
field_word Field.Require = codes "require"
field_word Field.Skew = codes "skew"
field_word Field.Binding = codes "binding"
field_word Field.Payload = codes "payload"
field_word Field.Hide = codes "hide"
field_word Field.Decoys = codes "decoys"
field_word Field.Key = codes "key"
field_word Field.Kid = codes "kid"
field_word Field.Want = codes "want"
field_word Field.Never = codes "never"
field_word Field.Alg = codes "alg"
field_word Field.SdAlg = codes "sd_alg"
field_word Field.Version = codes "version"
field_word Field.Equal = codes "equal"
