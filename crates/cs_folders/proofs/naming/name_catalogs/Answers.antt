use Rattle.std.proofs.Common.{◌≡◌, [], ◌∷◌, Some, length, refl, subst, arith}
use Rattle.std.specs.List.{slice_get}
use Rattle.std.proofs.lemmas.Option.{slice_get_read}
use Rattle.cs_file_system.specs.Calls.{AddsAll, sync_folder}
use Rattle.cs_folders.specs.Naming.{catalog_at, file_named}
use Rattle.cs_folders.proofs.Named.{files_named, one_copy_more}
use Rattle.cs_folders.proofs.naming.name_catalogs.Goals as goal

pub loop-site-init : goal.loop-site-init
loop-site-init g c = λ calls made. record {
  before = calls;
  later = [];
  last = refl;
  files = c.requires calls made;
  catalogs = λ k site less is. absurd (omega (arith, less));
}

pub name_catalog-requires : goal.name_catalog-requires
name_catalog-requires g c = λ calls made. files_named c.args.sites.now c.loop-site.site-index calls (c.loop-site.invariant calls made)

pub loop-site-preserved : goal.loop-site-preserved
loop-site-preserved g c =
    let old = g.F.FileSystem.made c.loop-site.files in
    let new = g.F.FileSystem.made c.name_catalog.new.files in
    let sites = c.args.sites.now in
    let i = c.loop-site.site-index in
    let at : slice_get sites i ≡ Some c.site-item.result = slice_get_read sites (length sites) i c.site-item.result refl c.loop-site-test.true c.site-item.is in
    one_copy_more sites i c.site-item.result old new at c.loop-site.invariant (subst (λ p. AddsAll (sync_folder p ∷ file_named (catalog_at p)) old new) c.as_str.ensures.value c.in_ok-name_catalog.ensures)

pub returns : goal.returns
returns g c = λ calls made.
    let whole = c.loop-site.invariant calls made in
    record {
      before = whole.before;
      later = whole.later;
      last = whole.last;
      files = whole.files;
      catalogs = λ k site less is. whole.catalogs k site (omega (arith, less, c.loop-site-test.false)) is;
    }
