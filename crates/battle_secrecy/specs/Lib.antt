pub mod Places
pub mod Alike
pub mod Showing
pub mod Courses
pub mod Laws
pub mod Teams
