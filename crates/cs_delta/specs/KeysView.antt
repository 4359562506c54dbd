-- The keys of an image as plain data.
use Rattle.std.specs.Prelude.{◌≡◌, ◌≤◌, ◌⊎◌, ◌++◌, ℕ, List, [], length}
use Rattle.cs_delta.specs.declared.keys.Keys.TheInside.{Inside}
use Rattle.cs_delta.specs.KindedImage.{base_keys}
use Rattle.cs_delta.specs.Places.{IsIndex}

abbrev pub key_list : Inside → List ℕ
key_list a = base_keys a.first ++ a.listed.items

-- few keys, with an index of the listed ones; if there are first ones, none is listed
abbrev pub AreKeys : Inside → Type 0
AreKeys a = (length (key_list a) ≤ 1048576) × IsIndex a.places.items a.listed.items × ((a.first ≡ 0) ⊎ (a.listed.items ≡ []))
