use Rattle.std.proofs.Common.{arith}
use Rattle.std.proofs.lemmas.List.{length-append}
use Rattle.cs_codec.proofs.bitmaps.BitmapsColumnEncoding.join.Goals as goal

pub add_kept-requires : goal.add_kept-requires
add_kept-requires g c = record {
  back = c.requires.back;
  they_are = c.requires.right_part.keeps;
  room = record {
    front = c.requires.front;
    are = c.in_ok-bitmaps.ensures c.requires.front c.requires.left_part.keeps;
    before_is = c.requires.left_part.count_is;
    short = omega (arith, length-append c.requires.front c.requires.back, c.requires.joined);
  };
}

pub returns : goal.returns
returns g c = λ x y hx hy. record {
  keeps = c.in_ok-add_kept.ensures y hy.keeps x hx.count_is (c.in_ok-bitmaps.ensures x hx.keeps);
  count_is = omega (arith, length-append x y, hx.count_is, hy.count_is);
}
