mod OtherRules
mod WorkedFiles
