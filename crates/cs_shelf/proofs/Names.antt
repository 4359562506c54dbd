-- Names that tie are one name.
use Rattle.std.proofs.Common.{◌≡◌, true, refl}
use Rattle.std.specs.Ordering.{is_eq, eq_by_cmp}
use Rattle.std.specs.Cmp.{eq_by_cmp_equiv}
use Rattle.std.specs.declared.cmp.Ordering.{Ordering}
use Rattle.std.specs.declared.cmp.Ordering.TheVariants.{Less, Equal, Greater}
use Rattle.cs_schema.specs.declared.file_name.FileName.{FileName}
use Rattle.cs_schema.specs.FileNames.{name_cmp}
use Rattle.cs_schema.specs.NameOrder.{name_cmp_total, name_cmp-IsAntisymmetric}

tie : (o : Ordering) → is_eq o ≡ true → o ≡ Equal
tie Less e = absurd (cc)
tie Equal e = refl
tie Greater e = absurd (cc)

pub same_name : (m n : FileName) → eq_by_cmp name_cmp m n ≡ true → m ≡ n
same_name m n e = name_cmp-IsAntisymmetric m n (tie _ e)

pub ties_itself : (n : FileName) → eq_by_cmp name_cmp n n ≡ true
ties_itself n = (eq_by_cmp_equiv name_cmp_total).refl n
