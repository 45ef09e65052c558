mod Following
mod Chain
mod Accepted
mod Origins
mod Statuses
