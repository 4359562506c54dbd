-- The fields of an image as plain data.
use Rattle.std.specs.Prelude.{map, length}
use Rattle.cs_schema.specs.Values.{values, kind_of}
use Rattle.cs_delta.specs.declared.image.Image.TheInside.{Inside}
use Rattle.cs_delta.specs.Layers.{pairs_of, HaveLength}
use Rattle.cs_delta.specs.KindedImage.{KindedImage}

abbrev pub image_data : Inside → KindedImage
image_data a = record { kinds = map kind_of a.columns.items; image = record { pairs = pairs_of a.keys (map values a.columns.items); top = a.top } }

abbrev pub IsImage : Inside → Type 0
IsImage a = HaveLength (length a.keys) (map values a.columns.items)
