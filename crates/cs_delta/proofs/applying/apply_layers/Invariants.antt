use Rattle.std.proofs.Common.{◌≡◌, ◌≤◌, ◌∷◌, List, map, length, take, drop}
use Rattle.cs_schema.specs.Values.{values, kind_of}
use Rattle.cs_delta.specs.Image.{Change}
use Rattle.cs_delta.proofs.LayerSteps.{AreMade}
use Rattle.cs_delta.proofs.applying.apply_layers.Given as goal

abbrev pub invariant-loop-layer : goal.invariant-loop-layer
invariant-loop-layer l = record {
  made_are : (lowest : List Change) → l.layers ≡ lowest ∷ l.above → AreMade l.keys (map values l.fn.columns.items) (map kind_of l.fn.columns.items) (lowest ∷ take l.layer-index l.above) (drop l.layer-index l.above) l.made.keys.items (map values l.made.columns.items) (map kind_of l.made.columns.items);
  few : length l.made.keys.items ≤ 1048576;
}
