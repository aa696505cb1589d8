-- What it is to append to a text.
use Rattle.std.specs.Prelude.{◌≡◌, List, ℕ, ◌++◌, string_bytes, Result, OnOk, String}

-- all went well, and then these bytes stand behind those that the text had
abbrev pub Appends : {Z E : Type 0} → Result (Unit {0}) E → (before after : String Z) → List ℕ → Type 0
Appends r before after bs = OnOk r (string_bytes after ≡ string_bytes before ++ bs)
