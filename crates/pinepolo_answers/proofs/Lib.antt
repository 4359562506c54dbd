mod NamesFound
mod SitesBelow
