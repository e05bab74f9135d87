-- `listing::write` meets its contract: what is found is listed. Assumes nothing.
use Rattle.listing.proofs.FoundListing.{can_be_listed, listed_in}
use Rattle.listing.proofs.write.Goals as goal

pub write_found-requires : goal.write_found-requires
write_found-requires c =
    let made = c.find-found.ensures in
    can_be_listed _ _ _ _ made.0 made.1.0 made.1.1

pub returns : goal.returns
returns c =
    listed_in _ _ _ _ _ c.find-found.ensures _ _ c.write_found.ensures
