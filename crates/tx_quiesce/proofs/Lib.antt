mod Zips
mod Rests
mod Asked
pub mod Shifted
pub mod Kin
pub mod KinRows
pub mod Goes
pub mod Suffix
pub mod Moved
mod TakenAway
mod Behind
mod AllMoved
mod Carrying
mod Places
mod Origins
pub mod Inside
pub mod Fitting
pub mod Searching
pub mod Tailing
pub mod Candidates
pub mod Fronts
pub mod Reuse
pub mod Untils
pub mod Found
pub mod Spliced
pub mod Furthers
pub mod Carried
pub mod Laters
pub mod Reusable
mod Unmoved
