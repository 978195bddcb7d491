pub mod NewYear
pub mod Days
pub mod Date
pub mod Thursday
pub mod Next
pub mod Week
